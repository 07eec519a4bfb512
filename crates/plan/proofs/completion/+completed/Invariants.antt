-- `plan::completed` meets its contract, by recursion on the stages left: the words of the slice grow fewer. Assumes nothing.
use lib.ListN.{length}
use Rattle.plan.proofs.completion.+completed.Given as goal

abbrev pub decreases-completed : goal.decreases-completed
decreases-completed l = length l.plan.now
