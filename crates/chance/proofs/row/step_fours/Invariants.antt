-- `chance::step_fours` meets its contract: the states from b on are done, and four go into the number of the others. Assumes nothing.
use Prim.Native.Nat.{◌-◌, ◌%◌, ◌≤◌}
use mathlib.Core.Path.{◌≡◌}
use Rattle.chance.specs.Layer.{FurtherTo}
use Rattle.chance.proofs.row.step_fours.Given as goal

abbrev pub invariant-loop-b : goal.invariant-loop-b
invariant-loop-b l = FurtherTo l.t.setting l.fn.y l.fn.g l.from l.fn.to l.fn.layer l.layer l.bad l.b × (l.from ≤ l.b) × ((l.b - l.from) % 4 ≡ 0)

abbrev pub decreases-loop-b : goal.decreases-loop-b
decreases-loop-b l = l.b
