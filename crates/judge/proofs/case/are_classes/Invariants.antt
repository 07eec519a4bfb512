-- The greatest class so far and the classes that follow decide.
use Rattle.std.proofs.Common.{◌≡◌, ◌&&◌, drop}
use lib.Dec.{leb}
use Rattle.plan.specs.Sample.{highest_class, are_classes}
use Rattle.judge.proofs.case.are_classes.Given as goal

abbrev pub invariant-loop-class : goal.invariant-loop-class
invariant-loop-class l = are_classes l.list ≡ (leb l.greatest highest_class && are_classes (drop l.class-index l.list))
