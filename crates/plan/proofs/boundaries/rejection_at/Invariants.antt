-- `plan::rejection_at` meets its contract. The loop's invariant: the stages left have the numbers of all. Assumes nothing.
use Prim.Native.Nat.{◌+◌, ◌≤◌}
use mathlib.Core.Path.{◌≡◌}
use lib.ListN.{length}
use Rattle.plan.specs.Plan.{stages, total}
use Rattle.plan.specs.Boundaries.{rejection_at}
use Rattle.plan.proofs.boundaries.rejection_at.Given as goal

abbrev pub invariant-loop-stage : goal.invariant-loop-stage
invariant-loop-stage l =
    (l.end + total (stages l.left) ≤ 1000) × (rejection_at l.before (stages l.plan) l.y ≡ rejection_at l.end (stages l.left) l.y)

abbrev pub decreases-loop-stage : goal.decreases-loop-stage
decreases-loop-stage l = length l.left
