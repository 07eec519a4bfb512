-- `plan::numbered_rules` meets its contract. The loop's invariant: the rules on the stages left are those on all. Assumes nothing.
use Prim.Native.Nat.{◌≤◌}
use mathlib.Core.List.{◌∷◌}
use mathlib.Core.Path.{◌≡◌}
use lib.ListN.{length}
use Rattle.plan.specs.Plan.{stages, numbered_rules}
use Rattle.plan.proofs.admission.numbered_rules.Given as goal

abbrev pub invariant-loop-next : goal.invariant-loop-next
invariant-loop-next l =
    (l.end ≤ 1000) × (numbered_rules l.before (l.fn.first ∷ stages l.plan) ≡ numbered_rules l.end (l.stage ∷ stages l.left))

abbrev pub decreases-loop-next : goal.decreases-loop-next
decreases-loop-next l = length l.left
