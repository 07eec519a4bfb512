-- What is written, and what follows.
use lib.ListN.{length}
use Rattle.sheet.proofs.FivesPut.{Put}
use Rattle.sheet.proofs.fives.put_fives.Given as goal

abbrev pub invariant-loop-five : goal.invariant-loop-five
invariant-loop-five l = Put l.initial.sheet l.words l.rest l.sheet l.place

abbrev pub decreases-loop-five : goal.decreases-loop-five
decreases-loop-five l = length l.rest
