-- One class more, and all of them.
use Rattle.std.proofs.Common.{sym, ap, ◌∙◌, take, arith}
use lib.Seq.{take_all}
use Rattle.plan.specs.declared.counts.Counts.{Counts}
use Rattle.plan.specs.Counts.{nongood, counts}
use Rattle.plan.proofs.Promise.{counting}
use Rattle.judge.proofs.Runs.{same_counts, units_to, next_class}
use Rattle.judge.proofs.run.count_part.Goals as goal

pub loop-class-init : goal.loop-class-init
loop-class-init c = (sym (ap nongood counting.empty), sym (ap (λ (d : Counts). d.bad) counting.empty))

pub overflow_add-nongood : goal.overflow_add-nongood
overflow_add-nongood c = let t = next_class c.args.part.now c.loop-class.class-index c.loop-class-test.true in omega
    arith

pub overflow_add-bad : goal.overflow_add-bad
overflow_add-bad c = let t = next_class c.args.part.now c.loop-class.class-index c.loop-class-test.true in omega arith

pub loop-class-preserved : goal.loop-class-preserved
loop-class-preserved c = let t = next_class c.args.part.now c.loop-class.class-index c.loop-class-test.true in omega
    arith

pub overflow_sub-result : goal.overflow_sub-result
overflow_sub-result c = let u = units_to c.args.part.now c.loop-class.class-index (omega arith) in omega arith

pub returns : goal.returns
returns c =
    let l = c.loop-class in
    let xs = c.args.part.now in
    let u = units_to xs l.class-index (omega arith) in
    same_counts _ (counts (take l.class-index xs)) (omega arith) (omega arith) (omega arith) ∙ ap counts
    (take_all l.class-index xs c.loop-class-test.false)
