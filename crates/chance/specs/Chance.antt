-- The chance of acceptance: its bounds low and high, and the exact sum N. Document 01, "Chance of acceptance".
use Rattle.std.specs.Prelude.{ℕ, ◌-◌, ◌*◌, ◌^◌, List}
use Rattle.plan.specs.declared.counts.Counts.{Counts}
use Rattle.plan.specs.declared.stage.Answer.{Answer}
use Rattle.plan.specs.declared.stage.Answer.TheVariants.{GoOn, Accept, Reject}
use Rattle.plan.specs.declared.stage.Stage.{Stage}
use Rattle.plan.specs.Plan.{total}
use Rattle.plan.specs.Counts.{no_units}
use Rattle.plan.specs.Stopping.{earliest}
use Rattle.plan.specs.Sample.{verdict}
use Rattle.chance.specs.declared.mean.Weights.{Weights}
use Rattle.chance.specs.Bounds.{Rounding, down, up, Valuation, bound, sum_over, weight_product}

-- the chance 1, in units of 2^-40
abbrev pub scale : ℕ
scale = 2 ^ 40

-- 2^40 once the earliest stop accepts, 0 once it rejects; a unit costs nothing
abbrev pub chance_value : List Stage → (Counts → Weights) → Valuation
chance_value p weights = record { decision = earliest p; weights = weights; accepted = scale; rejected = 0; cost = 0 }

-- the same weights at each unit
abbrev pub constant : Weights → Counts → Weights
constant w c = w

-- or what is left of each class of a lot after the counts c; a class used up weighs 0
abbrev pub left_of : Weights → Counts → Weights
left_of w c = record { good = w.good - c.good; marginal = w.marginal - c.marginal; bad = w.bad - c.bad }

-- the value before any unit, with S units left
abbrev pub chance_bound : Rounding → List Stage → Weights → ℕ
chance_bound r p w = bound r (chance_value p (constant w)) (total p) no_units

unfoldable pub low : List Stage → Weights → ℕ
low = chance_bound down

unfoldable pub high : List Stage → Weights → ℕ
high = chance_bound up

-- 1 for an accepted sample
abbrev pub indicator : Answer → ℕ
indicator Accept = 1
indicator Reject = 0
indicator GoOn = 0

-- N: the sum, over accepted sequences of S classes, of the product of their weights
unfoldable pub accepted_sum : List Stage → (Counts → Weights) → ℕ
accepted_sum p weights = sum_over (total p) (λ x. indicator (verdict p x) * weight_product weights no_units x)
