-- The sizes that a sheet may have, as numbers. Assumes nothing.
use Rattle.plan.proofs.Bools.{and_left, and_right}
use Prim.Native.Nat.{ℕ, ◌≤◌}
use mathlib.Core.Path.{◌≡◌}
use mathlib.Core.Bool.{true}
use mathlib.Core.List.{List}
use lib.ListN.{length}
use lib.Dec.{leb}
use borrow.Author.Tests.{leb-true}
use Rattle.sheetmodel.specs.Layout.{least_size, greatest_size, size_ok}

pub long_enough : (w : List ℕ) → size_ok w ≡ true → least_size ≤ length w
long_enough w e = leb-true least_size (length w) (and_left (leb least_size (length w)) (leb (length w) greatest_size) e)

pub short_enough : (w : List ℕ) → size_ok w ≡ true → length w ≤ greatest_size
short_enough w e = leb-true (length w) greatest_size (and_right (leb least_size (length w)) (leb (length w) greatest_size) e)
