-- What a sheet holds: its lots with their inspections, and its free records.
use Rattle.std.specs.Prelude.{ℕ, ◌+◌, cond, List, [], ◌∷◌, reverse, map, length, eqb}
use Rattle.std.proofs.Math.Option.{Option, none, some}

-- an inspection: its record and its class
pub record Inspection : Type 0 where
  pub at : ℕ
  pub class : ℕ

-- a lot: its record, its number and its inspections, the newest first
pub record Lot : Type 0 where
  pub at : ℕ
  pub number : ℕ
  pub inspections : List Inspection

pub record Contents : Type 0 where
  pub lots : List Lot
  pub free : List ℕ

-- the classes of inspections, the oldest first
abbrev pub classes : List Inspection → List ℕ
classes is = reverse (map (λ (i : Inspection). i.class) is)

abbrev pub history : Lot → List ℕ
history l = classes l.inspections

-- the lot of a number
abbrev pub find : ℕ → List Lot → Option Lot
find n [] = none
find n (l ∷ ls) = cond (eqb n l.number) (some l) (find n ls)

-- the records of lots and of their inspections
abbrev pub records_of : List Lot → ℕ
records_of [] = 0
records_of (l ∷ ls) = 1 + length l.inspections + records_of ls
