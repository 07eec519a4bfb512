-- `chance::lot_chance` meets its contract: row by row of the refusals, and then both bounds. Assumes nothing.
use mathlib.Core.Path.{sym, ap, ◌∙◌}
use mathlib.Core.Logic.{inl, inr}
use native.Mathlib.Omega.{arith}
use lib.ListN.{length}
use Rattle.std.specs.declared.result.Result.TheVariants.{Err}
use Rattle.plan.proofs.Promise.{shape}
use Rattle.chance.specs.declared.setting.Kind.TheVariants.{Left}
use Rattle.chance.specs.Bounds.{weight_sum, Valuation}
use Rattle.chance.specs.Reply.{weights_of, fitted_answer}
use Rattle.chance.specs.Lot.{lot_low, lot_high, lot_row, lot_answer}
use Rattle.chance.proofs.Replies.{valuation_is, first_row, own_row, last_row, kept}
use Rattle.chance.proofs.LotReplies.{undrawable, drawable}
use Rattle.chance.proofs.lot.lot_chance.Goals as goal
use Rattle.chance.proofs.lot.lot_chance.Goals.{then-units-sample_size-via-then-units-sample_size, then-units-sample_size-via-else-units-sample_size+then-units-gt-MOST}

pub returns-then-not-admitted-clause-value : goal.returns-then-not-admitted-clause-value
unfolding lot_answer
returns-then-not-admitted-clause-value c =
    let a = c.args in
    let lot = weights_of a.good a.marginal a.bad in
    first_row Err _ a.plan.now (lot_row a.plan.now lot) (length a.scratch.now) (sym c.admitted.ensures ∙ c.if-not-admitted.true)

pub sample_size-requires : goal.sample_size-requires
sample_size-requires c = (shape c.args.plan.now (sym c.admitted.ensures ∙ c.if-not-admitted.false)).thousand_units

pub returns-then-units-sample_size-clause-value : goal.returns-then-units-sample_size-clause-value
unfolding lot_answer
returns-then-units-sample_size-clause-value c =
    let a = c.args in
    let lot = weights_of a.good a.marginal a.bad in
    let ok = sym c.admitted.ensures ∙ c.if-not-admitted.false in
    own_row Err _ a.plan.now (lot_row a.plan.now lot) (length a.scratch.now) ok
    (undrawable a.plan.now lot
    (elim c.then-units-sample_size.branch [
      | then-units-sample_size-via-then-units-sample_size w ↦ inl (omega (arith, ap weight_sum c.of-lot.ensures.value))
      | then-units-sample_size-via-else-units-sample_size+then-units-gt-MOST w ↦ inr (omega (arith, ap weight_sum c.of-lot.ensures.value))
    ]))

pub fitted-requires-clause-suits : goal.fitted-requires-clause-suits
fitted-requires-clause-suits c =
    let ok = sym c.admitted.ensures ∙ c.if-not-admitted.false in
    (ok, record { some = omega (arith, (shape c.args.plan.now ok).some_unit); few = omega arith })

pub returns-clause-value : goal.returns-clause-value
unfolding lot_answer lot_low lot_high
returns-clause-value c =
    let a = c.args in
    let lot = weights_of a.good a.marginal a.bad in
    let n = length a.scratch.now in
    let ok = sym c.admitted.ensures ∙ c.if-not-admitted.false in
    c.fitted.ensures.value
    ∙ ap (λ (v : Valuation). fitted_answer a.plan.now v n) (valuation_is a.plan.now c.of_acceptance.result Left c.of-lot.ensures.value c.of_acceptance.ensures)
    ∙ last_row Err _ a.plan.now (lot_row a.plan.now lot) n ok (drawable a.plan.now lot (omega (arith, ap weight_sum c.of-lot.ensures.value)) (omega (arith, ap weight_sum c.of-lot.ensures.value)))

pub returns-clause-lot_keeps : goal.returns-clause-lot_keeps
returns-clause-lot_keeps c =
    let a = c.args in
    let lot = weights_of a.good a.marginal a.bad in
    let ok = sym c.admitted.ensures ∙ c.if-not-admitted.false in
    let row = last_row (λ r. 0) _ a.plan.now (lot_row a.plan.now lot) (length a.scratch.now) ok (drawable a.plan.now lot (omega (arith, ap weight_sum c.of-lot.ensures.value)) (omega (arith, ap weight_sum c.of-lot.ensures.value))) in
    kept _ a.plan.now a.scratch.now c.fitted.new.scratch row c.fitted.auto.scratch c.fitted.ensures.beyond
