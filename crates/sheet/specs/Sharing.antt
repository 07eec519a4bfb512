-- What the code's walks over lots and shares need of the words, and what they find. Document 02, change 7.
use Rattle.std.specs.Prelude.{ℕ, ◌+◌, ◌<◌, ◌≡◌, true, List, length, set, Option, Some, None}
use Rattle.std.proofs.Math.Option as math
use Rattle.std.proofs.Math.Option.{some}
use Rattle.std.specs.declared.result.Result.{Result}
use Rattle.std.specs.declared.result.Result.TheVariants.{Ok, Err}
use Rattle.plan.specs.declared.refusal.Refusal.{Refusal}
use Rattle.sheet.specs.declared.survey.Found.{Found}
use Rattle.sheetmodel.specs.Layout.{size_ok, word, offices}
use Rattle.sheetmodel.specs.Contents.{Lot}
use Rattle.sheetmodel.specs.Offices.{office, held}
use Rattle.sheetmodel.specs.Read.{read}
use Rattle.sheetmodel.specs.Rows.{is_some}
use Rattle.sheetmodel.specs.Calls.{contents}

-- rows 1 and 3 do not apply
pub record WholeSheet (w : List ℕ) : Type 0 where
  pub size : size_ok w ≡ true
  pub intact : is_some (read w) ≡ true

-- h has what each office holds of these lots
pub record HeldBy (ls : List Lot) (h : List ℕ) : Type 0 where
  pub sixteen : length h ≡ offices
  pub each : (o : ℕ) → o < offices → word h o ≡ held ls o

-- the records of each office with one lot more, of so many inspections
abbrev pub with_lot_held : List ℕ → ℕ → ℕ → List ℕ
with_lot_held h lot n = set h (office lot) (word h (office lot) + (1 + n))

-- where a survey finds the lots intact, h has what each office holds of those read
abbrev pub Counted : Option Found → math.Option (List Lot) → List ℕ → Type 0
Counted None o h = Unit
Counted (Some f) o h = (ls : List Lot) × (o ≡ some ls) × HeldBy ls h

-- and where no row refuses, what each office holds of the sheet's
abbrev pub CountedOn : List ℕ → Result Found Refusal → List ℕ → Type 0
CountedOn w (Err r) h = Unit
CountedOn w (Ok f) h = HeldBy (contents w).lots h
