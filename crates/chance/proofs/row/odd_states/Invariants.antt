-- `chance::odd_states` meets its contract: the states from b on are done. Assumes nothing.
use Prim.Native.Nat.{◌-◌, ◌%◌, ◌≤◌}
use Rattle.chance.specs.Layer.{FurtherTo}
use Rattle.chance.proofs.row.odd_states.Given as goal

abbrev pub invariant-loop-b : goal.invariant-loop-b
invariant-loop-b l = FurtherTo l.t.setting l.y l.g l.from l.to l.initial.layer l.layer l.bad l.b × (l.from ≤ l.b) × (l.to - (l.to - l.from) % 4 ≤ l.b)

abbrev pub decreases-loop-b : goal.decreases-loop-b
decreases-loop-b l = l.b
