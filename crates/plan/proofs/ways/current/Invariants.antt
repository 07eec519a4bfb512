-- `plan::current` meets its contract. The loop's invariant: the stages left answer as all do. Assumes nothing.
use Prim.Native.Nat.{◌+◌, ◌≤◌}
use mathlib.Core.Path.{◌≡◌}
use lib.ListN.{length}
use Rattle.plan.specs.Plan.{stages, total}
use Rattle.plan.specs.Stopping.{at_stage, current}
use Rattle.plan.proofs.ways.current.Given as goal

abbrev pub invariant-loop-stage : goal.invariant-loop-stage
invariant-loop-stage l =
    (l.end + total (stages l.left) ≤ 1000) × (current (at_stage l.way) 0 (stages l.plan) l.c ≡ current (at_stage l.way) l.end (stages l.left) l.c)

abbrev pub decreases-loop-stage : goal.decreases-loop-stage
decreases-loop-stage l = length l.left
