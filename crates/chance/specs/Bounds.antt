-- Bounds on an expected value over the units to come, rounded at each unit, and the exact sum that they bound. The chance of
-- acceptance is one case (Chance.antt). Document 01, "Chance of acceptance".
use Rattle.std.specs.Prelude.{ℕ, zero, suc, ◌+◌, ◌-◌, ◌*◌, ◌/◌, ◌≤◌, ◌<◌, List, [], ◌∷◌}
use Rattle.plan.specs.declared.counts.Counts.{Counts}
use Rattle.plan.specs.declared.stage.Answer.{Answer}
use Rattle.plan.specs.declared.stage.Answer.TheVariants.{GoOn, Accept, Reject}
use Rattle.plan.specs.Counts.{add_units}
use Rattle.chance.specs.declared.answers.Interval.{Interval}
use Rattle.chance.specs.declared.mean.Weights.{Weights}

-- low and high
abbrev pub Bounds : Type 0
Bounds = Interval ℕ

-- W
abbrev pub weight_sum : Weights → ℕ
weight_sum w = w.good + w.marginal + w.bad

-- weights that are allowed
pub record Proportions (w : Weights) : Type 0 where
  pub some : 0 < weight_sum w
  pub few : weight_sum w ≤ 1000000

-- the weight of a class; every class but 0 and 2 weighs as marginal
abbrev pub weight : ℕ → Weights → ℕ
weight zero w = w.good
weight (suc zero) w = w.marginal
weight (suc (suc zero)) w = w.bad
weight (suc (suc (suc x))) w = w.marginal

-- a value at each class, weighted and added up
abbrev pub weighted : Weights → ℕ → ℕ → ℕ → ℕ
weighted w good marginal bad = w.good * good + w.marginal * marginal + w.bad * bad

-- the same of a function of the class
abbrev pub weighted_sum : Weights → (ℕ → ℕ) → ℕ
weighted_sum w f = weighted w (f 0) (f 1) (f 2)

pub data Rounding : Type 0 where
  down up : Rounding

-- n / d, rounded
abbrev pub rounded : Rounding → ℕ → ℕ → ℕ
rounded down n d = n / d
rounded up n d = (n + (d - 1)) / d

-- what is expected: where inspection stops, the weights of the next unit by the counts so far, the values at acceptance and at
-- rejection, and the cost of each further unit
pub record Valuation : Type 0 where
  pub decision : Counts → Answer
  pub weights : Counts → Weights
  pub accepted : ℕ
  pub rejected : ℕ
  pub cost : ℕ

-- the terminal value, or `further` where inspection goes on
abbrev pub terminal : Valuation → Answer → ℕ → ℕ
terminal v GoOn further = further
terminal v Accept further = v.accepted
terminal v Reject further = v.rejected

-- the value at the counts c, of the values `next` after one unit more
abbrev pub step : Rounding → Valuation → (Counts → ℕ) → Counts → ℕ
step r v next c =
    terminal v (v.decision c) (v.cost + rounded r (weighted_sum (v.weights c) (λ x. next (add_units x 1 c))) (weight_sum (v.weights c)))

-- the value at the counts c with n units left
abbrev pub bound : Rounding → Valuation → ℕ → Counts → ℕ
bound r v zero = step r v (λ c. 0)
bound r v (suc n) = step r v (bound r v n)

-- ---- the exact sum

-- the sum of f over the sequences of n classes
abbrev pub sum_over : ℕ → (List ℕ → ℕ) → ℕ
sum_over zero f = f []
sum_over (suc n) f = sum_over n (λ x. f (0 ∷ x)) + sum_over n (λ x. f (1 ∷ x)) + sum_over n (λ x. f (2 ∷ x))

-- the product of the weights of a sequence that follows the counts c
abbrev pub weight_product : (Counts → Weights) → Counts → List ℕ → ℕ
weight_product weights c [] = 1
weight_product weights c (x ∷ xs) = weight x (weights c) * weight_product weights (add_units x 1 c) xs

-- the value of a sequence that follows the counts c
abbrev pub sequence_value : Valuation → Counts → List ℕ → ℕ
sequence_value v c [] = terminal v (v.decision c) v.cost
sequence_value v c (x ∷ xs) = terminal v (v.decision c) (v.cost + sequence_value v (add_units x 1 c) xs)

-- the values of the sequences of n classes, each by the product of its weights, added up
abbrev pub value_sum : Valuation → ℕ → Counts → ℕ
value_sum v n c = sum_over n (λ x. sequence_value v c x * weight_product v.weights c x)
