-- `plan::sample_size` meets its contract. The loop's invariant: the units so far, and those of the stages left. Assumes nothing.
use Prim.Native.Nat.{◌+◌}
use mathlib.Core.Path.{◌≡◌}
use lib.ListN.{length}
use Rattle.plan.specs.Plan.{stages, total}
use Rattle.plan.proofs.size.sample_size.Given as goal

abbrev pub invariant-loop-stage : goal.invariant-loop-stage
invariant-loop-stage l = l.units + total (stages l.left) ≡ total (stages l.plan)

abbrev pub decreases-loop-stage : goal.decreases-loop-stage
decreases-loop-stage l = length l.left
