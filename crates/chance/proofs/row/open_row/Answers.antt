-- `chance::open_row` meets its contract: decided states, then the others. Assumes nothing.
use Rattle.chance.proofs.InRow.{decided_valued, row_all}
use Rattle.chance.proofs.row.open_row.Goals as goal

pub step_fours-requires-clause-valued : goal.step_fours-requires-clause-valued
step_fours-requires-clause-valued c =
    let decided = c.write_decided-undecided in decided_valued decided.ensures c.requires.valued decided.auto.layer

pub returns : goal.returns
returns c = row_all c.write_decided-undecided.ensures c.step_fours.ensures
