-- A stage is read, and full goes on or has stopped.
use Rattle.std.proofs.Common.{ap, sym, ◌∙◌, length, arith}
use mathlib.Core.Path.{refl}
use borrow.Author.Tests.{eqb-true}
use Rattle.std.specs.Slice.Iter.{chunks_exact_rest}
use Rattle.plan.specs.Stopping.{goes_on}
use Rattle.plan.proofs.Promise.{shape}
use Rattle.judge.proofs.Halves.{is_on}
use Rattle.judge.proofs.StageTurns.{none_read, stage_read, list_read, plan_read}
use Rattle.judge.proofs.case.Case.before_full_stop.Goals as goal

pub loop-stage-init : goal.loop-stage-init
loop-stage-init c =
    let k = c.args.self.now in
    rw (
      c.into_iter-stage-iterator.ensures.into_iter_gives,
      c.chunks_exact-stage-items.ensures.rest,
      c.chunks_exact-stage-items.ensures.size,
      c.none-c.ensures,
    )
    (record {
      can_next = omega arith;
      is_finite = tt;
      size = refl;
      reached = none_read k.plan.now k.admitted
          k.list.now;
    })

pub count_run-after-requires : goal.count_run-after-requires
count_run-after-requires c =
    let s = c.in-Some.ensures.steps.1 in
    let i = c.loop-stage.invariant in
    let t = stage_read c.in-Some.stage.now (chunks_exact_rest c.next.new.self) c.args.self.now.admitted i.reached s.0
    (s.1 ∙ i.size) (omega (arith, c.min.ensures))
    (sym c.is_empty.ensures ∙ c.if-is_empty.false) c.split_at.ensures.front refl in
    omega (arith, t.few, c.split_at.ensures.front_len)

pub answer-requires : goal.answer-requires
answer-requires c =
    let s = c.in-Some.ensures.steps.1 in
    let i = c.loop-stage.invariant in
    let t = stage_read c.in-Some.stage.now (chunks_exact_rest c.next.new.self) c.args.self.now.admitted i.reached s.0
    (s.1 ∙ i.size) (omega (arith, c.min.ensures))
    (sym c.is_empty.ensures ∙ c.if-is_empty.false) c.split_at.ensures.front c.count_run-after.ensures in
    ((shape c.args.self.now.plan.now c.args.self.now.admitted).thousand_units, omega (arith, t.few, t.read))

pub units-requires : goal.units-requires
units-requires c =
    let s = c.in-Some.ensures.steps.1 in
    let i = c.loop-stage.invariant in
    let t = stage_read c.in-Some.stage.now (chunks_exact_rest c.next.new.self) c.args.self.now.admitted i.reached s.0
    (s.1 ∙ i.size) (omega (arith, c.min.ensures))
    (sym c.is_empty.ensures ∙ c.if-is_empty.false) c.split_at.ensures.front c.count_run-after.ensures in
    omega (arith, t.few, t.read)

pub before_stop-requires : goal.before_stop-requires
before_stop-requires c =
    let s = c.in-Some.ensures.steps.1 in
    let i = c.loop-stage.invariant in
    let t = stage_read c.in-Some.stage.now (chunks_exact_rest c.next.new.self) c.args.self.now.admitted i.reached s.0
    (s.1 ∙ i.size) (omega (arith, c.min.ensures))
    (sym c.is_empty.ensures ∙ c.if-is_empty.false) c.split_at.ensures.front c.count_run-after.ensures in
    rw c.units.ensures (t.stopped (ap goes_on (sym c.answer.ensures) ∙ sym c.goes_on.ensures ∙ c.if-not-goes_on.true))

pub loop-stage-preserved : goal.loop-stage-preserved
loop-stage-preserved c =
    let s = c.in-Some.ensures.steps.1 in
    let i = c.loop-stage.invariant in
    let t = stage_read c.in-Some.stage.now (chunks_exact_rest c.next.new.self) c.args.self.now.admitted i.reached s.0
    (s.1 ∙ i.size) (omega (arith, c.min.ensures))
    (sym c.is_empty.ensures ∙ c.if-is_empty.false) c.split_at.ensures.front c.count_run-after.ensures in
    let on = is_on _ (sym c.goes_on.ensures ∙ c.if-not-goes_on.false) in
    record {
      can_next = omega (arith, i.size, c.in-Some.ensures.steps.0);
      is_finite = tt;
      size = c.in-Some.ensures.steps.0 ∙ i.size;
      reached = rw c.split_at.ensures.back (t.went_on (sym c.answer.ensures ∙ on));
    }

pub returns-in-None : goal.returns-in-None
returns-in-None c =
    let k = c.args.self.now in
    let i = c.loop-stage.invariant in
    plan_read k.plan.now k.admitted k.list.now _ _ _ _ i.reached (omega (arith, i.size, c.in-None.ensures.steps.1.0))

pub returns-then-is_empty : goal.returns-then-is_empty
returns-then-is_empty c =
    let k = c.args.self.now in
    list_read k.plan.now k.admitted k.list.now _ _ _ _ c.loop-stage.invariant.reached
    (eqb-true (length c.loop-stage.rest.now) 0 (sym c.is_empty.ensures ∙ c.if-is_empty.true))
