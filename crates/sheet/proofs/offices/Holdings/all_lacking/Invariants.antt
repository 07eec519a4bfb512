-- The loop of `sheet::all_lacking`: what the offices so far lack. Assumes nothing.
use Rattle.std.proofs.Common.{◌≡◌, ◌-◌, ◌*◌, ◌≤◌}
use Rattle.sheetmodel.specs.Layout.{largest, word, share}
use Rattle.sheetmodel.specs.Offices.{added_up}
use Rattle.sheet.proofs.offices.Holdings.all_lacking.Given as goal

abbrev pub invariant-loop-o : goal.invariant-loop-o
invariant-loop-o l = (l.sum ≤ largest * l.o) × (l.sum ≡ added_up l.o (λ a. share l.self.sheet.now a - word l.self.held.now a))
