-- Which lines are commands, and which commands they are. Document 01, "Program lots".
use Rattle.std.specs.Prelude.{ℕ, ◌%◌, ◌*◌, Bool, cond, ◌&&◌, List, [], ◌∷◌, length, get_or, leb, eqb, Option, None}
use Rattle.std.specs.Prelude.{Some}
use Rattle.std.specs.List.{slice_split}
use Rattle.commandmodel.specs.Decimal.{number}

-- ---- the fields of a line, parted by one space

abbrev pub space : ℕ
space = 32

-- two spaces in a row part an empty field, which is neither a letter nor a number
abbrev pub fields : List ℕ → List (List ℕ)
fields line = slice_split (λ b. eqb b space) line

-- ---- the numbers after the letter

abbrev pub and_then : Option ℕ → Option (List ℕ) → Option (List ℕ)
and_then None ns = None
and_then (Some n) None = None
and_then (Some n) (Some ns) = Some (n ∷ ns)

-- none if a field is no number
unfoldable pub numbers : List (List ℕ) → Option (List ℕ)
numbers [] = Some []
numbers (f ∷ fs) = and_then (number f) (numbers fs)

-- ---- the commands

pub data Command : Type 0 where
  fresh : List ℕ → Command
  opening : ℕ → Command
  inspecting : ℕ → ℕ → Command
  striking : ℕ → Command
  looking : ℕ → Command
  closing : ℕ → Command
  tallying : Command

-- five numbers a stage, 1 to 7 stages
abbrev pub whole_stages : ℕ → Bool
whole_stages n = eqb (n % 5) 0 && leb (5 * 1) n && leb n (5 * 7)

-- a command's letter, how many numbers it takes, and what they say
pub record Form : Type 0 where
  pub letter : ℕ
  pub takes : ℕ → Bool
  pub says : List ℕ → Command

abbrev pub lot_of : List ℕ → ℕ
lot_of ns = get_or ns 0 0

abbrev pub class_of : List ℕ → ℕ
class_of ns = get_or ns 1 0

-- the letters p, o, i, s, l, c, t
unfoldable pub forms : List Form
forms =
    record { letter = 112; takes = whole_stages; says = fresh } ∷
    record { letter = 111; takes = eqb 1; says = λ ns. opening (lot_of ns) } ∷
    record { letter = 105; takes = eqb 2; says = λ ns. inspecting (lot_of ns) (class_of ns) } ∷
    record { letter = 115; takes = eqb 1; says = λ ns. striking (lot_of ns) } ∷
    record { letter = 108; takes = eqb 1; says = λ ns. looking (lot_of ns) } ∷
    record { letter = 99; takes = eqb 1; says = λ ns. closing (lot_of ns) } ∷
    record { letter = 116; takes = eqb 0; says = λ ns. tallying } ∷
    []

abbrev pub by_letter : List Form → ℕ → List ℕ → Option Command
by_letter [] b ns = None
by_letter (f ∷ fs) b ns = cond (eqb b f.letter) (cond (f.takes (length ns)) (Some (f.says ns)) None) (by_letter fs b ns)

-- ---- a line

abbrev pub longest_line : ℕ
longest_line = 255

-- the first field is one letter, and the others are numbers
abbrev pub of_letter : List ℕ → Option (List ℕ) → Option Command
of_letter letter None = None
of_letter [] (Some ns) = None
of_letter (b ∷ []) (Some ns) = by_letter forms b ns
of_letter (b ∷ c ∷ bs) (Some ns) = None

abbrev pub of_fields : List (List ℕ) → Option Command
of_fields [] = None
of_fields (letter ∷ rest) = of_letter letter (numbers rest)

-- the command that a line is, without the byte 10; none if it is no command
unfoldable pub command : List ℕ → Option Command
command line = cond (leb (length line) longest_line) (of_fields (fields line)) None
