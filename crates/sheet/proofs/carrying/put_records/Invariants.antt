-- `sheet::put_records` meets its contract: the records before j are written. Assumes nothing.
use Prim.Native.Nat.{◌≤◌}
use mathlib.Core.Path.{◌≡◌}
use lib.ListN.{length}
use Rattle.sheetmodel.specs.Layout.{word, next_unused, old_first_record}
use Rattle.sheet.proofs.CarryWords.{raised_to}
use Rattle.sheet.proofs.carrying.put_records.Given as goal

abbrev pub invariant-loop-j : goal.invariant-loop-j
invariant-loop-j l =
    (old_first_record ≤ l.j) × (l.j ≤ word l.old next_unused) × (length l.sheet ≡ length l.initial.sheet) × (l.sheet ≡ raised_to l.initial.sheet l.old l.j)
