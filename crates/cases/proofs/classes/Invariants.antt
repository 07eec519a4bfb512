-- There are at most as many classes as bytes that are read, and as the list has places.
use Rattle.std.proofs.Common.{◌≤◌, length}
use Rattle.cases.proofs.classes.Given as goal

abbrev pub invariant-loop-byte : goal.invariant-loop-byte
invariant-loop-byte l = record {
  within : l.n ≤ length l.list;
  most : l.n ≤ l.byte-index;
}
