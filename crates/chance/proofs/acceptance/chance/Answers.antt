-- `chance::chance` meets its contract: the bounds of its valuation. Assumes nothing.
use mathlib.Core.Path.{subst, ◌∙◌}
use lib.ListN.{length}
use Rattle.std.specs.declared.result.Result.TheVariants.{Ok, Err}
use Rattle.plan.specs.Refusal.{first_refusal}
use Rattle.chance.specs.declared.mean.Weights.{Weights}
use Rattle.chance.specs.declared.setting.Kind.TheVariants.{Same}
use Rattle.chance.specs.Chance.{low, high}
use Rattle.chance.specs.Layer.{valued_bounds}
use Rattle.chance.specs.Reply.{chance_answer, refusals, Keeps}
use Rattle.chance.proofs.Replies.{valuation_is}
use Rattle.chance.proofs.acceptance.chance.Goals as goal

pub returns : goal.returns
unfolding chance_answer low high
returns c =
    let a = c.args in
    let w = c.of.ensures.value in
    record {
      value = c.weighted.ensures.value
          ∙ (λ i. first_refusal Err (refusals a.plan.now (w i) (length a.scratch.now)) (Ok (valued_bounds a.plan.now (valuation_is a.plan.now c.of_acceptance.result Same w c.of_acceptance.ensures i))));
      keeps = subst (λ (v : Weights). Keeps a.plan.now v a.scratch.now c.weighted.new.scratch) w c.weighted.ensures.keeps;
    }
