-- `Taking`: the rest is left, and it falls.
use Rattle.std.proofs.Common.{length}
use Rattle.command.proofs.Pieces.{Taking}
use Rattle.command.proofs.taking.take_bytes.Given as goal

abbrev pub invariant-loop-reply : goal.invariant-loop-reply
invariant-loop-reply l = Taking l.block l.initial.line.items l.initial.sheet l.initial.replies l.line.items l.sheet
    l.replies l.used l.rest

abbrev pub decreases-loop-reply : goal.decreases-loop-reply
decreases-loop-reply l = length l.rest
