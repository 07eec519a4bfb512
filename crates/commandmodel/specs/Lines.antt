-- The lines of an input, and the replies to all of them. Document 01, "Program lots".
use Rattle.std.specs.Prelude.{ℕ, cond, List, [], ◌∷◌, ◌++◌, eqb}
use Rattle.sheetmodel.specs.Calls.{Outcome}
use Rattle.commandmodel.specs.Printed.{end_of_line, answer}

-- a byte more at the front of the first line
abbrev pub in_front : ℕ → List (List ℕ) → List (List ℕ)
in_front b [] = (b ∷ []) ∷ []
in_front b (l ∷ ls) = (b ∷ l) ∷ ls

-- lines end in byte 10; bytes after the last byte 10, if any, are a line
unfoldable pub lines : List ℕ → List (List ℕ)
lines [] = []
lines (b ∷ bs) = cond (eqb b end_of_line) ([] ∷ lines bs) (in_front b (lines bs))

-- replies that stand before others
abbrev pub replied : List ℕ → Outcome (List ℕ) → Outcome (List ℕ)
replied before o = record { reply = before ++ o.reply; words = o.words }

-- the lines answered one after another
unfoldable pub answers : List (List ℕ) → List ℕ → Outcome (List ℕ)
answers [] w = record { reply = []; words = w }
answers (l ∷ ls) w = replied (answer l w).reply (answers ls (answer l w).words)

-- all replies to an input, and the words that it leaves
unfoldable pub session : List ℕ → List ℕ → Outcome (List ℕ)
session input w = answers (lines input) w
