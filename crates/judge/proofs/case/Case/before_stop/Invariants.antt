-- `judge::before_stop` meets its contract. The loop's invariant: the stop lies between the two places. Assumes nothing.
use Prim.Native.Nat.{◌-◌}
use mathlib.Core.Path.{◌≡◌}
use Rattle.plan.specs.Counts.{units}
use Rattle.judge.specs.Run.{Between}
use Rattle.judge.proofs.case.Case.before_stop.Given as goal

abbrev pub invariant-loop-high : goal.invariant-loop-high
invariant-loop-high l = (l.low ≡ units l.c) × Between l.way l.self.plan.now l.self.list.now l.c l.high

abbrev pub decreases-loop-high : goal.decreases-loop-high
decreases-loop-high l = l.high - l.low
