-- The middle, where the way goes on or not; and the stop where one class is left.
use Prim.Native.Nat.{ℕ, ◌+◌, ◌-◌, ◌≤◌, ◌<◌}
use native.Mathlib.Omega.{arith}
use mathlib.Core.Path.{◌≡◌, sym, ap, ◌∙◌}
use mathlib.Core.List.{List}
use Rattle.plan.specs.declared.counts.Counts.{Counts}
use Rattle.plan.specs.declared.ways.Way.{Way}
use Rattle.plan.specs.Counts.{units, counts_after}
use Rattle.plan.specs.Stopping.{goes_on}
use Rattle.plan.proofs.Promise.{shape}
use Rattle.judge.specs.Run.{Between}
use Rattle.judge.proofs.Runs.{run}
use Rattle.judge.proofs.Halves.{is_on, Halved, halved, stop_found}
use Rattle.judge.proofs.case.Case.before_stop.Goals as goal

middle : {w xs : List ℕ} {way : Way} {c d : Counts} {high : ℕ} (low half : ℕ) → Between way w xs c high
    → low ≡ units c → 1 ≤ half → half < high - low
    → d ≡ counts_after c (run xs low (low + half)) → Halved w way xs c high (low + half) d
middle {w} {xs} {way} {c} {d} {high} low half t e l k f =
    halved w way xs c high t (low + half) (omega arith) (omega arith) d (f ∙ ap (λ (i : ℕ). counts_after c (run xs i
    (low + half))) e)

pub answer-requires : goal.answer-requires
answer-requires c =
    let l = c.loop-high in
    let h = middle l.low c.half.result l.invariant.1 l.invariant.0 c.half.ensures.0 c.half.ensures.1
    c.count_run-d.ensures in (
      (shape c.args.self.now.plan.now c.args.self.now.admitted).thousand_units,
      omega (
        arith,
        h.units,
        l.invariant.1.thousand,
      ),
    )

pub loop-high-preserved-then-goes_on : goal.loop-high-preserved-then-goes_on
loop-high-preserved-then-goes_on c =
    let l = c.loop-high in
    let h = middle l.low c.half.result l.invariant.1 l.invariant.0 c.half.ensures.0 c.half.ensures.1
    c.count_run-d.ensures in
    (sym h.units, h.later (sym c.answer.ensures ∙ is_on _ (sym c.goes_on.ensures ∙ c.if-goes_on.true)))

pub loop-high-preserved : goal.loop-high-preserved
loop-high-preserved c =
    let l = c.loop-high in
    let h = middle l.low c.half.result l.invariant.1 l.invariant.0 c.half.ensures.0 c.half.ensures.1
    c.count_run-d.ensures in
    (l.invariant.0, h.sooner (ap goes_on (sym c.answer.ensures) ∙ sym c.goes_on.ensures ∙ c.if-goes_on.false))

pub returns : goal.returns
returns c =
    let k = c.args.self.now in
    let l = c.loop-high in
    stop_found k.plan.now c.args.way k.list.now k.admitted l.c l.high l.invariant.1 (omega (arith, l.invariant.0))
