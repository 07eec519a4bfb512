-- The rows of the table "Refused" that the calls have after 1 to 3, each call's in the table's order. Its own rows ask for the plan p
-- and the history x of its lot (none: the lot is not on the sheet). Other lots matter only through the rows after them.
use Rattle.std.specs.Prelude.{ℕ, Bool, true, false, not, List, [], ◌∷◌, length, ltb, eqb}
use Rattle.std.proofs.Math.Option.{Option, none, some, get_or}
use Rattle.plan.specs.declared.stage.Answer.{Answer}
use Rattle.plan.specs.declared.refusal.Refusal.{Refusal}
use Rattle.plan.specs.declared.refusal.Refusal.TheVariants as refusal
use Rattle.plan.specs.Refusal.{Row}
use Rattle.plan.specs.Plan.{stages}
use Rattle.plan.specs.Counts.{counts}
use Rattle.plan.specs.Stopping.{earliest}
use Rattle.plan.specs.Sample.{highest_class}
use Rattle.sheetmodel.specs.Read.{undecided}

abbrev pub row : Refusal → Bool → Row
row r when = record { refusal = r; when = when }

abbrev pub is_some : {A : Type 0} → Option A → Bool
is_some none = false
is_some (some a) = true

-- the history, empty where there is none
abbrev pub classes_in : Option (List ℕ) → List ℕ
classes_in x = get_or x []

abbrev pub answer_to : List ℕ → Option (List ℕ) → Answer
answer_to p x = earliest (stages p) (counts (classes_in x))

-- ---- the own rows

abbrev pub open_own : ℕ → Option (List ℕ) → List Row
open_own n x = row refusal.LotZero (eqb n 0) ∷ row refusal.LotOpen (is_some x) ∷ []

-- every other call on a lot has row 6 before these
abbrev pub lot_rows : Option (List ℕ) → List Row → List Row
lot_rows x rest = row refusal.NoLot (not (is_some x)) ∷ rest

abbrev pub inspect_own : List ℕ → Option (List ℕ) → ℕ → List Row
inspect_own p x c = row refusal.Class (ltb highest_class c) ∷ row refusal.Decided (not (undecided (answer_to p x))) ∷ []

abbrev pub strike_own : Option (List ℕ) → List Row
strike_own x = row refusal.NoUnit (eqb (length (classes_in x)) 0) ∷ []

abbrev pub close_own : List ℕ → Option (List ℕ) → List Row
close_own p x = row refusal.Undecided (undecided (answer_to p x)) ∷ []

abbrev pub estimate_own : List ℕ → Option (List ℕ) → List Row
estimate_own p x = row refusal.Undecided (undecided (answer_to p x)) ∷ row refusal.SeveralStages (ltb 1 (length (stages p))) ∷ []

-- ---- the rows that other lots matter through

-- a record is needed: none is left, or the shares deny one
abbrev pub record_rows : Bool → Bool → List Row
record_rows full held_back = row refusal.Full full ∷ row refusal.HeldBack held_back ∷ []

-- a lot is closed
abbrev pub totals_rows : Bool → List Row
totals_rows full = row refusal.TotalsFull full ∷ []
