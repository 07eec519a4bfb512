-- The greatest class, and what is left of the list.
use Rattle.std.proofs.Common.{sym, ◌∙◌}
use mathlib.Core.Bool.{and-true}
use lib.ListN.{drop_of_length-le}
use lib.Dec.{leb}
use Rattle.plan.specs.Sample.{highest_class}
use Rattle.plan.proofs.Sample.{classing}
use Rattle.judge.proofs.Along.{class_greatest}
use Rattle.judge.proofs.case.are_classes.Goals as goal

pub loop-class-preserved : goal.loop-class-preserved
loop-class-preserved c =
    let l = c.loop-class in
    l.invariant ∙ rw c.max-greatest.ensures
    (class_greatest c.args.list.now l.class-index l.greatest c.loop-class-test.true)

pub returns : goal.returns
returns c =
    let l = c.loop-class in
    let xs = c.args.list.now in
    sym (l.invariant ∙ rw (drop_of_length-le xs c.loop-class-test.false, classing.none_tested) (and-true
    (leb l.greatest highest_class)))
