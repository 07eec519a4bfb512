-- `plan::rules` meets its contract. The loop's invariant: the rules on the stages left are those on all. Assumes nothing.
use Prim.Native.Nat.{◌≤◌}
use mathlib.Core.List.{◌∷◌}
use mathlib.Core.Path.{◌≡◌}
use lib.ListN.{length}
use Rattle.plan.specs.Plan.{stages, rules}
use Rattle.plan.proofs.admission.rules.Given as goal

abbrev pub invariant-loop-left : goal.invariant-loop-left
invariant-loop-left l =
    (l.before ≤ 1000) × (rules 0 (l.fn.first ∷ stages l.plan) ≡ rules l.before (l.stage ∷ stages l.left))

abbrev pub decreases-loop-left : goal.decreases-loop-left
decreases-loop-left l = length l.left
