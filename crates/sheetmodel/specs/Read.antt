-- What a sheet holds, read off its words; nothing where it is corrupt (01: torn). Each recursion waits behind a test of the
-- record that it reads, so that any damaged sheet can be read.
use Rattle.std.specs.Prelude.{ℕ, zero, suc, ◌+◌, ◌*◌, ◌≤◌, ◌≡◌, ◌↔◌, Bool, true, false, cond, ◌&&◌, List, [], ◌∷◌, length, leb, ltb, eqb}
use Rattle.std.proofs.Math.Option.{Option, none, some}
use Rattle.plan.specs.declared.stage.Answer.{Answer}
use Rattle.plan.specs.declared.stage.Stage.{Stage}
use Rattle.plan.specs.Plan.{stages, admitted}
use Rattle.plan.specs.Counts.{counts}
use Rattle.plan.specs.Stopping.{goes_on, earliest}
use Rattle.sheetmodel.specs.Layout.{word, field, next, newest, records, next_unused, first_lot, first_free, first_record, plan_words, unused_stages, share, closed_lots, closed_units, free_tag, most_closed}
use Rattle.plan.specs.Sample.{highest_class}
use Rattle.sheetmodel.specs.Offices.{shares_fit}
use Rattle.sheetmodel.specs.Holds.{Holds}
use Rattle.sheetmodel.specs.Contents.{Inspection, Lot, Contents, classes, records_of}

module _ {A : Type 0} where
  abbrev pub guard : Bool → (Unit {0} → Option A) → Option A
  guard true rest = rest tt
  guard false rest = none

module _ {A B : Type 0} where
  abbrev pub then : Option A → (A → Option B) → Option B
  then none rest = none
  then (some a) rest = rest a

-- the serial of a chain's newest inspection, the depth of the free chain's first record; 0 for an empty chain
unfoldable pub serial_at : List ℕ → ℕ → ℕ
serial_at w at = cond (eqb at 0) 0 (field w at 3)

unfoldable pub depth : List ℕ → ℕ
depth w = cond (eqb (word w first_free) 0) 0 (field w (word w first_free) 0)

module _ (start : ℕ) (w : List ℕ) where
  -- an index that a chain may have
  abbrev pub in_use : ℕ → Bool
  in_use at = leb start at && ltb at (word w next_unused)

  -- the inspections of the lot at `lot`, from `at` on, whose serials fall from n to 1
  unfoldable pub read_inspections : ℕ → ℕ → ℕ → Option (List Inspection)
  read_inspections lot zero at = guard (eqb at 0) (λ ok. some [])
  read_inspections lot (suc n) at =
      guard (in_use at && leb (field w at 0) highest_class && eqb (field w at 2) lot && eqb (field w at 3) (suc n)) (λ ok.
      then (read_inspections lot n (next w at)) (λ is.
      some (record { at = at; class = field w at 0 } ∷ is)))

  -- the free records from `at` on, whose depths fall from n to 1
  unfoldable pub read_free : ℕ → ℕ → Option (List ℕ)
  read_free zero at = guard (eqb at 0) (λ ok. some [])
  read_free (suc n) at =
      guard (in_use at && eqb (field w at 0) (suc n) && eqb (field w at 2) 0 && eqb (field w at 3) free_tag) (λ ok.
      then (read_free n (next w at)) (λ js.
      some (at ∷ js)))

  -- the lots from `at` on, whose numbers rise above `above`, at most n of them
  unfoldable pub read_lots : ℕ → ℕ → ℕ → Option (List Lot)
  read_lots zero above at = guard (eqb at 0) (λ ok. some [])
  read_lots (suc n) above at =
      cond (eqb at 0) (some [])
      (guard (in_use at && ltb above (field w at 0) && eqb (field w at 3) 0) (λ ok.
      then (read_inspections at (serial_at w (newest w at)) (newest w at)) (λ is.
      then (read_lots n (field w at 0) (next w at)) (λ ls.
      some (record { at = at; number = field w at 0; inspections = is } ∷ ls)))))

-- no inspection after the earliest stop: the inspections before each are undecided
abbrev pub undecided : Answer → Bool
undecided = goes_on

abbrev pub undecided_before : List Stage → List Inspection → Bool
undecided_before p [] = true
undecided_before p (i ∷ is) = undecided (earliest p (counts (classes is))) && undecided_before p is

abbrev pub all_undecided_before : List Stage → List Lot → Bool
all_undecided_before p [] = true
all_undecided_before p (l ∷ ls) = undecided_before p l.inspections && all_undecided_before p ls

abbrev pub all_zero : List ℕ → Bool
all_zero [] = true
all_zero (x ∷ xs) = eqb x 0 && all_zero xs

abbrev pub header_ok : ℕ → List ℕ → Bool
header_ok start w =
    admitted (plan_words w) &&
    all_zero (unused_stages w) &&
    leb start (word w next_unused) &&
    leb (word w next_unused) (records w) &&
    leb (closed_lots w) most_closed &&
    leb (closed_units w) (1000 * closed_lots w)

abbrev pub contents_ok : ℕ → List ℕ → Contents → Bool
contents_ok start w s =
    eqb (start + (records_of s.lots + length s.free)) (word w next_unused) &&
    all_undecided_before (stages (plan_words w)) s.lots

unfoldable pub read_from : ℕ → List ℕ → Option Contents
read_from start w =
    guard (header_ok start w) (λ ok.
    then (read_lots start w (records w) 0 (word w first_lot)) (λ ls.
    then (read_free start w (depth w) (word w first_free)) (λ js.
    guard (contents_ok start w (record { lots = ls; free = js })) (λ ok.
    some (record { lots = ls; free = js })))))

-- a sheet whose shares add to more than its records is corrupt
unfoldable pub read : List ℕ → Option Contents
read w = guard (shares_fit (share w) w) (λ ok. read_from first_record w)

-- the reader finds exactly what the words hold, from any start but 0, which ends a chain (proofs/Read.antt)
abbrev pub ReadsExactly : Type 0
ReadsExactly = (start : ℕ) → 1 ≤ start → (w : List ℕ) (s : Contents) → (read_from start w ≡ some s) ↔ Holds start w s

abbrev pub ReadsASheet : Type 0
ReadsASheet = (w : List ℕ) (s : Contents) → (read w ≡ some s) ↔ ((shares_fit (share w) w ≡ true) × Holds first_record w s)
