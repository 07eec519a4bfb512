-- What is granted of the expected number of units fits a float, and demand 1 of both calls.
-- Assumes nothing.
use Prim.Native.Nat.{ℕ, ◌≤◌}
use mathlib.Core.Path.{◌≡◌, refl}
use mathlib.Core.List.{List}
use native.Mathlib.Omega.{arith}
use Rattle.std.specs.declared.result.Result.{Result}
use Rattle.std.specs.declared.result.Result.TheVariants.{Ok}
use Rattle.plan.specs.declared.refusal.Refusal.{Refusal}
use Rattle.plan.specs.Plan.{stages}
use Rattle.plan.specs.Refusal.{NoneApplies}
use Rattle.plan.proofs.Promise.{shape}
use Rattle.chance.specs.declared.mean.Weights.{Weights}
use Rattle.chance.specs.Chance.{scale}
use Rattle.chance.specs.Bounds.{Bounds}
use Rattle.chance.specs.Fraction.{power}
use Rattle.chance.specs.Reply.{Chart, refusals, divided_answer}
use Rattle.chance.specs.Units.{units_low, units_high, units_bounds, units_answer, units_chart_answer, ExactUnitsChart}
use Rattle.chance.specs.UnitsLaws.{UnitsRefusalLaw}
use Rattle.chance.proofs.Replies.{bounds_refused, chart_refused, fits, charted, granted_weights}
use Rattle.chance.proofs.UnitsLaw.{units_law}

-- a thousand units are fewer than 2^10
pub units_fit : (plan : List ℕ) (w : Weights) (n : ℕ) → NoneApplies (refusals plan w n) → (units_low (stages plan) w ≤ scale) × (units_high (stages plan) w ≤ scale)
units_fit plan w n h =
    let g = granted_weights plan w n h in
    let law = units_law plan w g.0 g.1 in
    let few = (shape plan g.0).thousand_units in
    omega arith

-- ---- demand 1

pub units_refusal_law : UnitsRefusalLaw
unfolding units_answer units_chart_answer
units_refusal_law plan w n = (bounds_refused (refusals plan w n) _ refl, chart_refused (refusals plan w n) _ refl)

-- ---- the chart

pub units_chart_exact : (plan : List ℕ) (w : Weights) (n : ℕ) {x : Result Bounds Refusal} {y : Result Chart Refusal} → x ≡ units_answer plan w n → y ≡ divided_answer (power 30) x
    → (y ≡ units_chart_answer plan w n) × ExactUnitsChart plan w y
unfolding units_answer units_chart_answer
units_chart_exact plan w n = charted (refusals plan w n) 30 (units_bounds (stages plan) w) (units_fit plan w n) (omega arith)

pub units_chart_fits : (plan : List ℕ) (w : Weights) (n : ℕ) {x : Bounds} → ◌≡◌ {A = Result Bounds Refusal} (Ok x) (units_answer plan w n) → (x.low ≤ scale) × (x.high ≤ scale)
unfolding units_answer
units_chart_fits plan w n = fits (refusals plan w n) 30 (units_bounds (stages plan) w) (units_fit plan w n)
