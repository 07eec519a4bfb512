-- The first refusal; and else the four ways and the event.
use Rattle.std.proofs.Common.{◌≡◌, ℕ, List, true, not, ap, sym, ◌∙◌, arith}
use Rattle.std.proofs.lemmas.Result.{err_from_is_err_and}
use Rattle.std.specs.declared.result.Result.TheVariants.{Ok, Err}
use Rattle.plan.specs.declared.refusal.Refusal.{Refusal}
use Rattle.plan.specs.Plan.{admitted}
use Rattle.plan.specs.Refusal.{First}
use Rattle.plan.specs.Sample.{are_classes}
use Rattle.plan.proofs.Promise.{shape}
use Rattle.plan.proofs.Refusals.{first_refusals}
use Rattle.judge.specs.Judge.{refusals, judgement, judged}
use Rattle.judge.specs.Run.{semi_stop}
use Rattle.judge.proofs.FromFull.{in_plan, semi_is}
use Rattle.judge.proofs.list.judge.Goals as goal

module _ (w xs : List ℕ) where
  refused : (r : Refusal) → First (refusals w xs) r → Err r ≡ judged w xs
  unfolding judged
  refused r f = sym (first_refusals.refuses _ Err (refusals w xs) (Ok (judgement w xs)) r f)

  granted : admitted w ≡ true → are_classes xs ≡ true → Ok (judgement w xs) ≡ judged w xs
  unfolding judged
  granted e f = sym (first_refusals.grants _ Err (refusals w xs) (Ok (judgement w xs)) (ap not e, (ap not f, tt)))

pub returns-in_err-case : goal.returns-in_err-case
returns-in_err-case c =
    let p = err_from_is_err_and c.from_residual.result c.from_residual.ensures.1 in
    rw (p.1, p.2) (refused c.args.plan.now c.args.list.now _ c.in_err-case.ensures.err)

pub event_of-requires : goal.event_of-requires
event_of-requires c =
    let k = c.in_ok-case.case in
    omega (
      arith,
      in_plan k.plan.now k.admitted k.list.now _ c.stop_after-full.ensures,
      (shape k.plan.now k.admitted).thousand_units,
    )

pub returns : goal.returns
returns c =
    let k = c.in_ok-case.case in
    let full = c.stop_after-full in
    let uncurtailed = c.uncurtailed_stop-uncurtailed in
    let semi = c.semi_stop.ensures ∙ ap (semi_stop full.result) uncurtailed.ensures
    ∙ semi_is k.plan.now k.admitted k.list.now full.result full.ensures k.classes in
    let same = c.in_ok-case.ensures.ok in
    rw (c.event_of.ensures, semi, uncurtailed.ensures, c.earliest_stop.ensures, full.ensures)
    (granted k.plan.now k.list.now k.admitted k.classes ∙ ap (λ (w : List ℕ). judged w k.list.now) same.0 ∙ ap
    (judged c.args.plan.now) same.1)
