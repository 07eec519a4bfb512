-- `chance::units` meets its contract: the bounds of its valuation. Assumes nothing.
use mathlib.Core.Path.{subst, ◌∙◌}
use lib.ListN.{length}
use Rattle.std.specs.declared.result.Result.TheVariants.{Ok, Err}
use Rattle.plan.specs.Refusal.{first_refusal}
use Rattle.chance.specs.declared.mean.Weights.{Weights}
use Rattle.chance.specs.declared.setting.Kind.TheVariants.{Same}
use Rattle.chance.specs.Units.{units_low, units_high, units_answer}
use Rattle.chance.specs.Layer.{valued_bounds}
use Rattle.chance.specs.Reply.{refusals, Keeps}
use Rattle.chance.proofs.Replies.{valuation_is}
use Rattle.chance.proofs.expected_units.units.Goals as goal

pub returns : goal.returns
unfolding units_answer units_low units_high
returns c =
    let a = c.args in
    let w = c.of.ensures.value in
    record {
      value = c.weighted.ensures.value
          ∙ (λ i. first_refusal Err (refusals a.plan.now (w i) (length a.scratch.now)) (Ok (valued_bounds a.plan.now (valuation_is a.plan.now c.of_units.result Same w c.of_units.ensures i))));
      keeps = subst (λ (v : Weights). Keeps a.plan.now v a.scratch.now c.weighted.new.scratch) w c.weighted.ensures.keeps;
    }
