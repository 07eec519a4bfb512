-- What is known of a record that was tested. Assumes nothing.
use Rattle.plan.proofs.Bools.{and_left, and_right}
use Prim.Native.Nat.{ℕ, ◌≤◌}
use mathlib.Core.Path.{◌≡◌, refl, sym}
use mathlib.Core.Bool.{Bool, true, false}
use mathlib.Core.List.{List}
use borrow.Author.Tests.{leb-true}
use Rattle.plan.specs.Sample.{highest_class}
use Rattle.sheetmodel.specs.Layout.{field}
use Rattle.sheet.specs.declared.record.Record.{Record}
use Rattle.std.specs.Prelude.{Some, None}
use Rattle.std.proofs.lemmas.Option.{cond_some}
use Rattle.sheet.specs.Survey.{record_at, record_if, is_inspection}

-- a record that was found passed the test, and is the one in the words; none was found where the test failed
pub passed : (test : Bool) (w : List ℕ) (at : ℕ) (r : Record) → Some r ≡ record_if test w at → (test ≡ true) × (record_at w at ≡ r)
passed test w at r e = cond_some test (record_at w at) r (sym e)

pub failed : (test : Bool) (w : List ℕ) (at : ℕ) → None ≡ record_if test w at → test ≡ false
failed true w at e = absurd (cc)
failed false w at e = refl

pub inspection_class : (first : ℕ) (w : List ℕ) (lot serial at : ℕ) → is_inspection first w lot serial at ≡ true → field w at 0 ≤ highest_class
inspection_class first w lot serial at e = leb-true (field w at 0) highest_class (search (and_left, and_right))
