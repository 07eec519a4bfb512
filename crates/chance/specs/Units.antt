-- The expected number of units at the earliest stop (the field's term: average sample number): the exact sum, its bounds low and
-- high, and what `units` and `units_chart` answer. Document 02, change 6.
use Rattle.std.specs.Prelude.{ℕ, ◌+◌, ◌*◌, ◌^◌, List, [], ◌∷◌}
use Rattle.std.specs.declared.result.Result.{Result}
use Rattle.std.specs.declared.result.Result.TheVariants.{Ok, Err}
use Rattle.plan.specs.declared.refusal.Refusal.{Refusal}
use Rattle.plan.specs.declared.counts.Counts.{Counts}
use Rattle.plan.specs.declared.stage.Answer.{Answer}
use Rattle.plan.specs.declared.stage.Answer.TheVariants.{GoOn, Accept, Reject}
use Rattle.plan.specs.declared.stage.Stage.{Stage}
use Rattle.plan.specs.Plan.{stages, total}
use Rattle.plan.specs.Counts.{no_units, add_units}
use Rattle.plan.specs.Stopping.{earliest}
use Rattle.plan.specs.Refusal.{first_refusal}
use Rattle.chance.specs.declared.mean.Weights.{Weights}
use Rattle.chance.specs.Bounds.{Bounds, Rounding, down, up, Valuation, bound, sum_over, weight_product}
use Rattle.chance.specs.Chance.{constant}
use Rattle.chance.specs.Reply.{Chart, refusals, floats, ExactFloats}

-- ---- the exact value

-- further units where the answer goes on, else none
abbrev pub while_going_on : Answer → ℕ → ℕ
while_going_on GoOn further = further
while_going_on Accept further = 0
while_going_on Reject further = 0

-- how many of the classes that follow the counts c are read up to the earliest stop
abbrev pub units_after : List Stage → Counts → List ℕ → ℕ
units_after p c [] = 0
units_after p c (x ∷ xs) = while_going_on (earliest p c) (1 + units_after p (add_units x 1 c) xs)

-- the units of a sample at the earliest stop
abbrev pub stop_units : List Stage → List ℕ → ℕ
stop_units p x = units_after p no_units x

-- the sum, over all sequences of S classes, of stop times product of weights
unfoldable pub stop_sum : List Stage → (Counts → Weights) → ℕ
stop_sum p weights = sum_over (total p) (λ x. stop_units p x * weight_product weights no_units x)

-- ---- its bounds

-- one unit of a lot, in units of 2^-30
abbrev pub unit_scale : ℕ
unit_scale = 2 ^ 30

-- 0 once the earliest stop decides; each unit up to there costs one
abbrev pub units_value : List Stage → (Counts → Weights) → Valuation
units_value p weights = record { decision = earliest p; weights = weights; accepted = 0; rejected = 0; cost = unit_scale }

-- the value before any unit, with S units left
abbrev pub units_bound : Rounding → List Stage → Weights → ℕ
units_bound r p w = bound r (units_value p (constant w)) (total p) no_units

unfoldable pub units_low : List Stage → Weights → ℕ
units_low = units_bound down

unfoldable pub units_high : List Stage → Weights → ℕ
units_high = units_bound up

abbrev pub units_bounds : List Stage → Weights → Bounds
units_bounds p w = record { low = units_low p w; high = units_high p w }

-- ---- the answers: refused as the chance of acceptance is, by the same rows

-- `units`: the first row that applies, else low and high
unfoldable pub units_answer : List ℕ → Weights → ℕ → Result Bounds Refusal
units_answer plan w n = first_refusal Err (refusals plan w n) (Ok (units_bounds (stages plan) w))

-- `units_chart`: refused alike, else low / 2^30 and high / 2^30 as floats
unfoldable pub units_chart_answer : List ℕ → Weights → ℕ → Result Chart Refusal
units_chart_answer plan w n = first_refusal Err (refusals plan w n) (Ok (floats 30 (units_bounds (stages plan) w)))

-- the floats of a pair are low / 2^30 and high / 2^30 exactly
abbrev pub ExactUnitsChart : List ℕ → Weights → Result Chart Refusal → Type 0
ExactUnitsChart plan w = ExactFloats 30 (units_bounds (stages plan) w)
