-- Each turn takes a byte.
use Rattle.std.proofs.Common.{length}
use Rattle.lots.proofs.Session.take_block.Given as goal

abbrev pub decreases-loop-rest : goal.decreases-loop-rest
decreases-loop-rest g l = length l.rest
