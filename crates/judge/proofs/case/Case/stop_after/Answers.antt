-- No class is left, or the next one decides.
use Prim.Native.Nat.{ℕ, ◌≤◌, ◌<◌}
use native.Mathlib.Omega.{arith}
use mathlib.Core.Path.{◌≡◌, ap, ◌∙◌}
use mathlib.Core.Bool.{true}
use mathlib.Core.List.{List}
use lib.ListN.{length, get_or}
use Rattle.plan.specs.declared.counts.Counts.{Counts}
use Rattle.plan.specs.declared.ways.Way.{Way}
use Rattle.plan.specs.Plan.{stages, admitted}
use Rattle.plan.specs.Counts.{units, no_units, add_units}
use Rattle.plan.specs.Stopping.{answer}
use Rattle.plan.proofs.Promise.{shape}
use Rattle.judge.specs.Judge.{stop_of}
use Rattle.judge.specs.Laws.{at}
use Rattle.judge.specs.Run.{BeforeStop}
use Rattle.judge.proofs.Along.{stop_within}
use Rattle.judge.proofs.Halves.{no_more, stop_next}
use Rattle.judge.proofs.case.Case.stop_after.Goals as goal

-- d counts the next class too
record Next (w xs : List ℕ) (way : Way) (d : Counts) : Type 0 where
  is_stop : record { answer = answer way (stages w) d; counts = d } ≡ stop_of way w xs
  few : units d ≤ 1000

next : {w xs : List ℕ} {way : Way} {c d : Counts} (i : ℕ) → admitted w ≡ true → BeforeStop way w xs c → i ≡ units c
    → i < length xs
    → d ≡ add_units (get_or xs i 0) 1 c → Next w xs way d
next {w} {xs} {way} {c} {d} i ok b e l f =
    let s = stop_next w way xs ok c b (omega arith) d (f ∙ ap (λ (j : ℕ). add_units (get_or xs j 0) 1 c) e) in
    record { is_stop = s; few = omega (arith, (shape w ok).thousand_units, ap at s, stop_within w ok way no_units xs) }

pub returns-then-self-i : goal.returns-then-self-i
returns-then-self-i c =
    let k = c.args.self.now in
    c.no_stop.ensures ∙ no_more k.plan.now c.args.way k.list.now k.admitted c.args.before c.requires (omega (
      arith,
      c.units-i.ensures,
      c.if-self-i.true,
    ))

pub answer-requires : goal.answer-requires
answer-requires c =
    let k = c.args.self.now in (
      (shape k.plan.now k.admitted).thousand_units,
      (next c.units-i.result k.admitted c.requires c.units-i.ensures c.if-self-i.false c.with-c.ensures).few,
    )

pub returns : goal.returns
returns c =
    let k = c.args.self.now in
    rw c.answer.ensures (next c.units-i.result k.admitted c.requires c.units-i.ensures c.if-self-i.false
    c.with-c.ensures).is_stop
