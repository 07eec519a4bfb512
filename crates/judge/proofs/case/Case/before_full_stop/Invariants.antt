-- What is read of the list, and the stages that follow.
use Rattle.std.proofs.Common.{◌≡◌}
use Rattle.std.specs.Slice.Iter.{chunks_exact_rest, chunks_exact_size}
use Rattle.plan.specs.Counts.{units}
use Rattle.judge.proofs.StageTurns.{Reached}
use Rattle.judge.proofs.case.Case.before_full_stop.Given as goal

abbrev pub invariant-loop-stage : goal.invariant-loop-stage
invariant-loop-stage l = record {
  can_next : (goal.iterator-loop-stage).can_next l.stage-iterator;
  is_finite : (goal.iterator-loop-stage).is_finite l.stage-iterator;
  size : chunks_exact_size l.stage-iterator ≡ 5;
  reached : Reached l.self.plan.now l.self.list.now (units l.c) l.c l.rest (chunks_exact_rest l.stage-iterator);
}
