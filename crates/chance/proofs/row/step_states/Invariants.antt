-- `chance::step_states` meets its contract: the states from b on are done. Assumes nothing.
use Rattle.chance.specs.Layer.{FurtherTo}
use Rattle.chance.proofs.row.step_states.Given as goal

abbrev pub invariant-loop-b : goal.invariant-loop-b
invariant-loop-b g l = FurtherTo (g.M.Means.of l.means) l.y l.g l.from l.to l.initial.layer l.layer l.bad l.b
