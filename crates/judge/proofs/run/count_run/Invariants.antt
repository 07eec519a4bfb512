-- The counts so far and the parts that follow.
use Rattle.std.proofs.Common.{◌≡◌, ◌+◌, ◌≤◌, length}
use Rattle.std.specs.Slice.Iter.{chunks_rest, chunks_size}
use Rattle.judge.specs.declared.run.TheConstants.{PART}
use Rattle.plan.specs.Counts.{units, counts_after}
use Rattle.judge.proofs.run.count_run.Given as goal

abbrev pub invariant-loop-part : goal.invariant-loop-part
invariant-loop-part l = record {
  can_next : (goal.iterator-loop-part).can_next l.part-iterator;
  is_finite : (goal.iterator-loop-part).is_finite l.part-iterator;
  size : chunks_size l.part-iterator ≡ PART;
  few : units l.c + length (chunks_rest l.part-iterator) ≤ 1000;
  counted : counts_after l.c (chunks_rest l.part-iterator) ≡ counts_after l.initial.c l.run;
}
