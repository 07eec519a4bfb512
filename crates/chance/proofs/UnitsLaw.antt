-- The units law: the value of a sample is the units at its stop, so the rounding law and the width law bound the sum of the stops;
-- and what the bounds lie between.
-- Assumes nothing.
use Prim.Native.Nat.{ℕ, zero, suc, ◌+◌, ◌*◌, ◌≤◌}
use mathlib.Core.Path.{◌≡◌, refl, ap, ◌∙◌}
use mathlib.Core.Logic.{inr}
use mathlib.Core.List.{List, [], ◌∷◌}
use lib.ListN.{length}
use native.Mathlib.Nat.{mul_assoc, mul_comm, one-le-pow, le_of_mul-le-mul_right, le_trans}
use native.Mathlib.Omega.{arith}
use Rattle.plan.specs.declared.counts.Counts.{Counts}
use Rattle.plan.specs.declared.stage.Answer.{Answer}
use Rattle.plan.specs.declared.stage.Answer.TheVariants.{GoOn, Accept, Reject}
use Rattle.plan.specs.declared.stage.Stage.{Stage}
use Rattle.plan.specs.Plan.{stages, total}
use Rattle.plan.specs.Counts.{units, no_units, add_units}
use Rattle.plan.specs.Stopping.{earliest}
use Rattle.plan.specs.Promise.{Promise}
use Rattle.plan.proofs.Promise.{promise, counting}
use Rattle.chance.specs.declared.mean.Weights.{Weights}
use Rattle.chance.specs.Bounds.{down, up, weight_sum, weighted_sum, Rounding, rounded, terminal, step, bound, weight_product, sequence_value, value_sum}
use Rattle.chance.specs.Chance.{constant}
use Rattle.chance.specs.Units.{while_going_on, units_after, stop_units, stop_sum, unit_scale, units_value, units_low, units_high}
use Rattle.chance.specs.UnitsLaws.{UnitsLaw}
use Rattle.chance.proofs.Rounding.{width}
use Rattle.chance.proofs.Sums.{sum_same, sum_scaled}
use Rattle.chance.proofs.Enclosure.{rounding_law}
use Rattle.chance.proofs.ChanceLaw.{power}
use Rattle.chance.proofs.Decisions.{answered}
use Rattle.chance.proofs.States.{mean_at_most}

-- ---- the value of a sample

module _ (p : List Stage) (kept : Promise p) (weights : Counts → Weights) where
  -- what follows the counts c up to S units is worth the units read of it
  sample_units : (x : List ℕ) (c : Counts) → units c + length x ≡ total p → sequence_value (units_value p weights) c x ≡ unit_scale * units_after p c x
  sample_units [] c e = go (earliest p c) refl
    where
      go : (a : Answer) → earliest p c ≡ a → terminal (units_value p weights) a unit_scale ≡ unit_scale * 0
      go GoOn d = absurd (answered p kept c (omega arith) d)
      go Accept d = refl
      go Reject d = refl
  sample_units (x ∷ xs) c e = go (earliest p c) (sample_units xs (add_units x 1 c) (omega (arith, counting.added x 1 c)))
    where
      rest : ℕ
      rest = units_after p (add_units x 1 c) xs

      go : (a : Answer) → sequence_value (units_value p weights) (add_units x 1 c) xs ≡ unit_scale * rest
          → terminal (units_value p weights) a (unit_scale + sequence_value (units_value p weights) (add_units x 1 c) xs) ≡ unit_scale * while_going_on a (1 + rest)
      go GoOn next = omega (arith, next)
      go Accept next = refl
      go Reject next = refl

  -- the exact sum, in units of 2^-30
  exact_units : value_sum (units_value p weights) (total p) no_units ≡ unit_scale * stop_sum p weights
  unfolding stop_sum
  exact_units =
      sum_same (total p) (λ x. sequence_value (units_value p weights) no_units x * weight_product weights no_units x)
      (λ x. unit_scale * (stop_units p x * weight_product weights no_units x))
      (λ x e cs. ap (λ (k : ℕ). k * weight_product weights no_units x) (sample_units x no_units (omega arith))
      ∙ mul_assoc unit_scale (stop_units p x) (weight_product weights no_units x))
      ∙ sum_scaled (total p) unit_scale (λ x. stop_units p x * weight_product weights no_units x)

-- ---- at least one unit, and one at most for each unit left

module _ (r : Rounding) (p : List Stage) (kept : Promise p) (w : Weights) where
  step_most : (next : Counts → ℕ) (m : ℕ) (c : Counts) → ((x : ℕ) → next (add_units x 1 c) ≤ m) → step r (units_value p (constant w)) next c ≤ unit_scale + m
  step_most next m c h = go (earliest p c)
    where
      go : (a : Answer) → terminal (units_value p (constant w)) a (unit_scale + rounded r (weighted_sum w (λ x. next (add_units x 1 c))) (weight_sum w)) ≤ unit_scale + m
      go GoOn = omega (arith, mean_at_most w (h 0, h 1, h 2) r)
      go Accept = omega arith
      go Reject = omega arith

  pub units_most : (n : ℕ) (c : Counts) → units c + n ≡ total p → bound r (units_value p (constant w)) n c ≤ n * unit_scale
  units_most zero c e = go (earliest p c) refl
    where
      go : (a : Answer) → earliest p c ≡ a → terminal (units_value p (constant w)) a (unit_scale + rounded r (weighted_sum w (λ x. 0)) (weight_sum w)) ≤ 0
      go GoOn d = absurd (answered p kept c (omega arith) d)
      go Accept d = omega arith
      go Reject d = omega arith
  units_most (suc n) c e =
      omega (arith, step_most (bound r (units_value p (constant w)) n) (n * unit_scale) c (λ x. units_most n (add_units x 1 c) (omega (arith, counting.added x 1 c))))

  -- the empty lot is undecided
  pub units_least : (n : ℕ) → unit_scale ≤ bound r (units_value p (constant w)) n no_units
  units_least zero = rw kept.empty (omega arith)
  units_least (suc n) = rw kept.empty (omega arith)

pub units_law : UnitsLaw
unfolding units_low units_high
units_law plan w ok some =
    let p : List Stage = stages plan in
    let kept = promise plan ok in
    let v = units_value p (constant w) in
    let e = rounding_law v (λ y. weight_sum w) (λ y c. Unit {0}) (record { sum = λ y c o. refl; next = λ y c o x l. inr tt }) (total p) 0 no_units tt in
    let d = rw (power (weight_sum w) 0 (total p), exact_units p kept (constant w)) at e in
    record {
      from_below = rw (mul_comm (stop_sum p (constant w)) unit_scale) d.0;
      from_above = rw (mul_comm (stop_sum p (constant w)) unit_scale) d.1;
      close = omega (arith, width v (total p) no_units);
      close_as_written = omega (arith, width v (total p) no_units);
      ordered = le_of_mul-le-mul_right (le_trans d.0 d.1) (one-le-pow (total p) (weight_sum w) some);
      at_least_one = units_least down p kept w (total p);
      at_most_all = units_most up p kept w (total p) no_units (omega arith);
    }
