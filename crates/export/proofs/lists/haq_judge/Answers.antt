-- `export::haq_judge` meets its contract, case by case: a stop's units fit, since no way stops after S units, of which there
-- are at most 1,000. Assumes nothing.
use Prim.Native.Nat.{ℕ, ◌≤◌}
use native.Mathlib.Omega.{arith}
use mathlib.Core.Path.{◌≡◌, sym, ◌∙◌}
use mathlib.Core.List.{List}
use Rattle.plan.specs.declared.ways.StageWay.TheVariants.{Uncurtailed, Semi, Full}
use Rattle.plan.specs.declared.ways.Way.TheVariants.{Staged, Earliest}
use Rattle.plan.specs.Counts.{units}
use Rattle.plan.proofs.Promise.{shape}
use Rattle.judge.specs.declared.list.Judgement.{Judgement}
use Rattle.std.specs.declared.result.Result.TheVariants.{Ok}
use Rattle.judge.specs.Judge.{judged}
use Rattle.judge.proofs.Laws.{granted_rightly, stop_laws}
use Rattle.export.proofs.lists.haq_judge.Goals as goal

record Short (j : Judgement) : Type 0 where
  pub uncurtailed : units j.uncurtailed.counts ≤ 1000
  pub semi : units j.semi.counts ≤ 1000
  pub full : units j.full.counts ≤ 1000
  pub earliest : units j.earliest.counts ≤ 1000

short : (plan list : List ℕ) (j : Judgement) → judged plan list ≡ Ok j → Short j
short plan list j e =
    let g = (granted_rightly plan list j).0 e in
    let s = stop_laws plan list g.0 in
    let thousand = (shape plan g.0).thousand_units in
    rw g.2
    (record {
      uncurtailed = omega (arith, thousand, s.within (Staged Uncurtailed));
      semi = omega (arith, thousand, s.within (Staged Semi));
      full = omega (arith, thousand, s.within (Staged Full));
      earliest = omega (arith, thousand, s.within Earliest);
    })

pub stop_of-requires : goal.stop_of-requires
stop_of-requires c =
    let here : Short c.in-Ok.j = let call = c.judge in
    let a = c.args in
    short a.plan.now a.list.now _ (sym call.ensures ∙ c.in-Ok.is) in
    here.uncurtailed

pub stop_of-requires-in-Ok : goal.stop_of-requires-in-Ok
stop_of-requires-in-Ok c =
    let here : Short c.in-Ok.j = let call = c.judge in
    let a = c.args in
    short a.plan.now a.list.now _ (sym call.ensures ∙ c.in-Ok.is) in
    here.semi

pub stop_of-requires-in-Ok-2 : goal.stop_of-requires-in-Ok-2
stop_of-requires-in-Ok-2 c =
    let here : Short c.in-Ok.j = let call = c.judge in
    let a = c.args in
    short a.plan.now a.list.now _ (sym call.ensures ∙ c.in-Ok.is) in
    here.full

pub stop_of-requires-in-Ok-3 : goal.stop_of-requires-in-Ok-3
stop_of-requires-in-Ok-3 c =
    let here : Short c.in-Ok.j = let call = c.judge in
    let a = c.args in
    short a.plan.now a.list.now _ (sym call.ensures ∙ c.in-Ok.is) in
    here.earliest
