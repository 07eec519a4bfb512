-- There are at most as many numbers as the list has places.
use Rattle.std.proofs.Common.{◌≤◌, length}
use Rattle.cases.proofs.words.Given as goal

abbrev pub invariant-loop-word : goal.invariant-loop-word
invariant-loop-word l = l.n ≤ length l.list
