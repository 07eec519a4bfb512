-- The chance of acceptance of a lot of known size, whose units are drawn without replacement: the exact chance, its bounds low and
-- high, and what `lot_chance` answers and leaves of the scratch. Document 02, change 2.
use Rattle.std.specs.Prelude.{ℕ, zero, suc, ◌+◌, ◌≤◌, cond, ◌||◌, List, [], ◌∷◌, ◌++◌, length, ltb, eqb}
use Rattle.std.specs.declared.result.Result.{Result}
use Rattle.std.specs.declared.result.Result.TheVariants.{Ok, Err}
use Rattle.plan.specs.declared.refusal.Refusal.{Refusal}
use Rattle.plan.specs.declared.refusal.Refusal.TheVariants as refusal
use Rattle.plan.specs.declared.stage.Stage.{Stage}
use Rattle.plan.specs.Plan.{stages, total}
use Rattle.plan.specs.Counts.{no_units}
use Rattle.plan.specs.Refusal.{Row, first_refusal}
use Rattle.plan.specs.Sample.{verdict}
use Rattle.chance.specs.declared.mean.Weights.{Weights}
use Rattle.chance.specs.Bounds.{Bounds, weight_sum, Rounding, down, up, bound}
use Rattle.chance.specs.Chance.{chance_value, left_of, indicator}
use Rattle.chance.specs.Reply.{plan_row, scratch_row, Kept}

-- ---- the exact chance: accepted ordered draws over all ordered draws

-- a lot is the list of its units' classes, each good, marginal or bad
abbrev pub Lot : List ℕ → Type 0
Lot [] = Unit {0}
Lot (x ∷ rest) = (x ≤ 2) × Lot rest

-- the sum of f over the units of a lot: over each one's class and the other units, of which those passed already stand first
abbrev pub unit_sum : (ℕ → List ℕ → ℕ) → List ℕ → List ℕ → ℕ
unit_sum f passed [] = 0
unit_sum f passed (x ∷ rest) = f x (passed ++ rest) + unit_sum f (x ∷ passed) rest

-- the sum of f over the ordered draws of n units, of the classes drawn; no unit is drawn twice
abbrev pub draw_sum : ℕ → (List ℕ → ℕ) → List ℕ → ℕ
draw_sum zero f lot = f []
draw_sum (suc n) f lot = unit_sum (λ x others. draw_sum n (λ xs. f (x ∷ xs)) others) [] lot

-- how many ordered draws of S units there are
abbrev pub all_draws : List Stage → List ℕ → ℕ
all_draws p = draw_sum (total p) (λ x. 1)

-- and how many of them are accepted
abbrev pub accepted_draws : List Stage → List ℕ → ℕ
accepted_draws p = draw_sum (total p) (λ x. indicator (verdict p x))

-- how many units of the class x a lot has
abbrev pub units_of : ℕ → List ℕ → ℕ
units_of x [] = 0
units_of x (z ∷ rest) = units_of x rest + cond (eqb z x) 1 0

-- the numbers of good, marginal and bad units, which are what is known of the lot
abbrev pub numbers : List ℕ → Weights
numbers lot = record { good = units_of 0 lot; marginal = units_of 1 lot; bad = units_of 2 lot }

-- ---- its bounds: those of the chance, where each class weighs what is left of it

abbrev pub lot_bound : Rounding → List Stage → Weights → ℕ
lot_bound r p lot = bound r (chance_value p (left_of lot)) (total p) no_units

unfoldable pub lot_low : List Stage → Weights → ℕ
lot_low = lot_bound down

unfoldable pub lot_high : List Stage → Weights → ℕ
lot_high = lot_bound up

-- ---- the answer

-- a row of the table "Refused": the lot has fewer units than the sample or more than 1,000,000
abbrev pub lot_row : List ℕ → Weights → Row
lot_row plan lot = record { refusal = refusal.LotSize; when = ltb (weight_sum lot) (total (stages plan)) || ltb 1000000 (weight_sum lot) }

abbrev pub lot_refusals : List ℕ → Weights → ℕ → List Row
lot_refusals plan lot n = plan_row plan ∷ lot_row plan lot ∷ scratch_row plan n ∷ []

abbrev pub lot_bounds : List Stage → Weights → Bounds
lot_bounds p lot = record { low = lot_low p lot; high = lot_high p lot }

-- `lot_chance`: the first row that applies, else low and high
unfoldable pub lot_answer : List ℕ → Weights → ℕ → Result Bounds Refusal
lot_answer plan lot n = first_refusal Err (lot_refusals plan lot n) (Ok (lot_bounds (stages plan) lot))

-- which words of the scratch it leaves
abbrev pub LotKeeps : List ℕ → Weights → List ℕ → List ℕ → Type 0
LotKeeps plan lot before after = Kept (lot_refusals plan lot (length before)) plan before after
