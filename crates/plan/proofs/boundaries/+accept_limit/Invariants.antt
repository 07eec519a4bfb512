-- `plan::accept_limit` meets its contract, by recursion on the stages left: the words of the slice grow fewer. Assumes nothing.
use lib.ListN.{length}
use Rattle.plan.proofs.boundaries.+accept_limit.Given as goal

abbrev pub decreases-accept_limit : goal.decreases-accept_limit
decreases-accept_limit l = length l.plan.now
