-- `chance::step_row` meets its contract: decided states, then the others. Assumes nothing.
use Rattle.chance.proofs.InRow.{decided_valued, row_all}
use Rattle.chance.proofs.row.step_row.Goals as goal

pub step_states-requires-clause-valued : goal.step_states-requires-clause-valued
step_states-requires-clause-valued g c =
    let decided = c.write_decided-undecided in decided_valued (rw c.setting.ensures at decided.ensures) c.requires.valued decided.auto.layer

pub returns : goal.returns
returns g c = row_all (rw c.setting.ensures at c.write_decided-undecided.ensures) c.step_states.ensures
