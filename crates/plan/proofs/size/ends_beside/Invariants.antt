-- `plan::ends_beside` meets its contract. The loop's invariant: the ends of the stages left are those of all. Assumes nothing.
use Prim.Native.Nat.{◌+◌, ◌≤◌}
use mathlib.Core.Path.{◌≡◌}
use lib.ListN.{length}
use Rattle.plan.specs.Plan.{stages, total, end_below, end_from}
use Rattle.plan.proofs.size.ends_beside.Given as goal

abbrev pub invariant-loop-stage : goal.invariant-loop-stage
invariant-loop-stage l =
    (l.below + total (stages l.left) ≤ 1000) ×
    (end_below l.before (stages l.plan) l.y ≡ end_below l.below (stages l.left) l.y) ×
    (end_from l.before (stages l.plan) l.y ≡ end_from l.below (stages l.left) l.y)

abbrev pub decreases-loop-stage : goal.decreases-loop-stage
decreases-loop-stage l = length l.left
