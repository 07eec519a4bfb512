-- `chance::step_rows` meets its contract: the rows before g are done. Assumes nothing.
use Prim.Native.Nat.{◌-◌}
use Rattle.chance.proofs.InPlace.{RowsTo}
use Rattle.chance.proofs.layer.step_rows.Given as goal

abbrev pub invariant-loop-g : goal.invariant-loop-g
invariant-loop-g g l = RowsTo l.plan (g.M.Means.of l.means) l.y l.rows l.initial.layer l.layer l.limit l.g

abbrev pub decreases-loop-g : goal.decreases-loop-g
decreases-loop-g g l = l.rows - l.g
