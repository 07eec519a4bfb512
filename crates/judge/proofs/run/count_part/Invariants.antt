-- The counters have the units of the classes so far.
use Rattle.std.proofs.Common.{◌≡◌, take}
use Rattle.plan.specs.Counts.{nongood, counts}
use Rattle.judge.proofs.run.count_part.Given as goal

abbrev pub invariant-loop-class : goal.invariant-loop-class
invariant-loop-class l =
    (l.nongood ≡ nongood (counts (take l.class-index l.part))) × (l.bad ≡ (counts (take l.class-index l.part)).bad)
