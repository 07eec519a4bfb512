-- `plan::split_first` meets its contract: five words, and those after them. Assumes nothing.
use Rattle.plan.proofs.Stages.{stages_none, split}
use Rattle.plan.proofs.stage.split_first.Goals as goal

pub returns-in_err-words : goal.returns-in_err-words
returns-in_err-words c = rw c.from_residual.ensures (stages_none _ c.in_err-words.ensures.cases)

pub returns : goal.returns
returns c = split _ _ _ _ c.from.ensures c.in_ok-words.ensures.cases
