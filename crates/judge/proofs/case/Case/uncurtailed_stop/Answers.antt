-- From full's stop to the end of its stage.
use Prim.Native.Nat.{ℕ, ◌≤◌}
use native.Mathlib.Omega.{arith}
use mathlib.Core.Path.{◌≡◌, ap, sym, ◌∙◌}
use mathlib.Core.Bool.{true, false}
use mathlib.Core.List.{List}
use Rattle.plan.specs.declared.ways.StageWay.TheVariants.{Full}
use Rattle.plan.specs.declared.ways.Way.TheVariants.{Staged}
use Rattle.plan.specs.Plan.{stages, end_from, admitted}
use Rattle.plan.specs.Counts.{units, counts_after}
use Rattle.plan.proofs.Promise.{shape, promise, counting}
use Rattle.plan.specs.Stopping.{goes_on}
use Rattle.judge.specs.declared.stop.Stop.{Stop}
use Rattle.judge.specs.Judge.{stop_of}
use Rattle.judge.proofs.Runs.{run, run_length}
use Rattle.judge.proofs.FromFull.{in_plan, uncurtailed_none, uncurtailed_short, uncurtailed_end, end_after}
use Rattle.judge.proofs.case.Case.uncurtailed_stop.Goals as goal

-- from full's stop after `from` units to `end`, where its stage ends
record ToEnd (w : List ℕ) (full : Stop) (from end : ℕ) : Type 0 where
  off : goes_on full.answer ≡ false
  is_end : end ≡ end_from 0 (stages w) (units full.counts)
  after : from ≤ end
  few : end ≤ 1000

to_end : {w : List ℕ} {full : Stop} {from end : ℕ} (xs : List ℕ) → admitted w ≡ true → full ≡ stop_of
    (Staged Full) w xs → goes_on full.answer ≡ false
    → from ≡ units full.counts → end ≡ end_from 0 (stages w) from → ToEnd w full from end
to_end {w} {full} {from} {end} xs ok is off f e =
    let here : end ≡ end_from 0 (stages w) (units full.counts) = e ∙ ap (end_from 0 (stages w)) f in
    record {
      off = off;
      is_end = here;
      after = omega (arith, end_after w ok xs full is off end here);
      few = omega (
        arith,
        (promise w ok).end_within (units full.counts) (in_plan w ok xs full is),
        here,
        (shape w ok).thousand_units,
      );
    }

pub returns-then-goes_on : goal.returns-then-goes_on
returns-then-goes_on c =
    let k = c.args.self.now in
    c.no_stop.ensures ∙ uncurtailed_none k.plan.now k.admitted k.list.now c.args.full c.requires
    (sym c.goes_on.ensures ∙ c.if-goes_on.true)

pub units-from-requires : goal.units-from-requires
units-from-requires c =
    let k = c.args.self.now in
    omega (
      arith,
      in_plan k.plan.now k.admitted k.list.now c.args.full c.requires,
      (shape k.plan.now k.admitted).thousand_units,
    )

pub end_from-end-requires : goal.end_from-end-requires
end_from-end-requires c = omega (arith, (shape c.args.self.now.plan.now c.args.self.now.admitted).thousand_units)

pub returns-then-self-end : goal.returns-then-self-end
returns-then-self-end c =
    let k = c.args.self.now in
    let t = to_end k.list.now k.admitted c.requires (sym c.goes_on.ensures
    ∙ c.if-goes_on.false) c.units-from.ensures c.end_from-end.ensures in
    c.no_stop-then-self-end.ensures
    ∙ uncurtailed_short k.plan.now k.admitted k.list.now c.args.full c.requires t.off c.end_from-end.result t.is_end
    c.if-self-end.true

pub slice_bounds-count_run-count : goal.slice_bounds-count_run-count
slice_bounds-count_run-count c =
    let k = c.args.self.now in
    (to_end k.list.now k.admitted c.requires (sym c.goes_on.ensures
    ∙ c.if-goes_on.false) c.units-from.ensures c.end_from-end.ensures).after

pub slice_bounds-count_run-start : goal.slice_bounds-count_run-start
slice_bounds-count_run-start c =
    let k = c.args.self.now in
    let t = to_end k.list.now k.admitted c.requires (sym c.goes_on.ensures
    ∙ c.if-goes_on.false) c.units-from.ensures c.end_from-end.ensures in
    omega (arith, t.after)

pub count_run-c-requires : goal.count_run-c-requires
count_run-c-requires c =
    let k = c.args.self.now in
    let t = to_end k.list.now k.admitted c.requires (sym c.goes_on.ensures
    ∙ c.if-goes_on.false) c.units-from.ensures c.end_from-end.ensures in
    omega (
      arith,
      run_length k.list.now c.units-from.result c.end_from-end.result t.after c.if-self-end.false,
      t.few,
      t.after,
    )

pub answer-requires : goal.answer-requires
answer-requires c =
    let k = c.args.self.now in
    let t = to_end k.list.now k.admitted c.requires (sym c.goes_on.ensures
    ∙ c.if-goes_on.false) c.units-from.ensures c.end_from-end.ensures in
    let rest = run k.list.now c.units-from.result c.end_from-end.result in
    let n = ap units c.count_run-c.ensures ∙ (counting.after_more c.args.full.counts rest).units in
    let rest_length = run_length k.list.now c.units-from.result c.end_from-end.result t.after c.if-self-end.false in
    ((shape k.plan.now k.admitted).thousand_units, omega (arith, n, rest_length, t.few, t.after, c.units-from.ensures))

pub returns : goal.returns
returns c =
    let k = c.args.self.now in
    let t = to_end k.list.now k.admitted c.requires (sym c.goes_on.ensures
    ∙ c.if-goes_on.false) c.units-from.ensures c.end_from-end.ensures in
    rw c.answer.ensures
    (uncurtailed_end k.plan.now k.admitted k.list.now c.args.full c.requires t.off c.end_from-end.result t.is_end
    c.if-self-end.false c.count_run-c.result
    (c.count_run-c.ensures ∙ ap (λ (n : ℕ). counts_after c.args.full.counts
    (run k.list.now n c.end_from-end.result)) c.units-from.ensures))
