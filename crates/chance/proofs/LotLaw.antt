-- The lot law: what is left of each class are steady weights, so the rounding law and the width law hold of them.
-- Assumes nothing.
use Prim.Native.Nat.{ℕ, zero, suc, ◌-◌, ◌*◌, ◌≤◌, ◌<◌}
use mathlib.Core.Path.{◌≡◌, refl, sym, ap, ◌∙◌}
use mathlib.Core.Logic.{◌⊎◌, inl, inr, ⊎_elim}
use mathlib.Core.List.{List}
use lib.ListN.{length}
use native.Mathlib.Nat.{mul_comm, mul-pos, le_of_mul-le-mul_right, le_trans}
use native.Mathlib.Omega.{arith}
use Rattle.plan.specs.declared.counts.Counts.{Counts}
use Rattle.plan.specs.declared.stage.Stage.{Stage}
use Rattle.plan.specs.Plan.{stages, total}
use Rattle.plan.specs.Counts.{units, no_units, add_units}
use Rattle.plan.specs.Sample.{verdict}
use Rattle.plan.proofs.Promise.{promise, counting}
use Rattle.chance.specs.declared.mean.Weights.{Weights}
use Rattle.chance.specs.Bounds.{up, weight_sum, weight}
use Rattle.chance.specs.Chance.{scale, chance_value, left_of, indicator, accepted_sum}
use Rattle.chance.specs.Laws.{Steady, sum_product}
use Rattle.chance.specs.Lot.{accepted_draws, numbers, lot_low, lot_high}
use Rattle.chance.specs.LotLaws.{falling, LotLaw}
use Rattle.chance.proofs.Rounding.{width}
use Rattle.chance.proofs.Enclosure.{rounding_law}
use Rattle.chance.proofs.ChanceLaw.{exact, at_most_scale}
use Rattle.chance.proofs.Draws.{counted, weighed, length_is}

-- ---- steady weights

-- counts of y units that the lot has
record Drawn (lot : Weights) (y : ℕ) (c : Counts) : Type 0 where
  size : units c ≡ y
  good : c.good ≤ lot.good
  marginal : c.marginal ≤ lot.marginal
  bad : c.bad ≤ lot.bad

some_left : (a b : ℕ) → (a - b ≡ 0) ⊎ (b < a)
some_left a b = go (a - b) refl
  where
    go : (d : ℕ) → a - b ≡ d → (a - b ≡ 0) ⊎ (b < a)
    go zero e = inl e
    go (suc d) e = inr (omega arith)

-- a class used up weighs 0, and a unit of another can be drawn
draws_on : (lot : Weights) (y : ℕ) (c : Counts) → Drawn lot y c → (x : ℕ) → x ≤ 2 → (weight x (left_of lot c) ≡ 0) ⊎ Drawn lot (suc y) (add_units x 1 c)
draws_on lot y c d zero l = ⊎_elim inl (λ (h : c.good < lot.good). inr (rw (counting.good 1 c) (omega arith))) (some_left lot.good c.good)
draws_on lot y c d (suc zero) l =
    ⊎_elim inl (λ (h : c.marginal < lot.marginal). inr (rw (counting.marginal 1 1 c (λ (z : ◌≡◌ {A = ℕ} 1 0). omega arith) (λ (z : ◌≡◌ {A = ℕ} 1 2). omega arith)) (omega arith)))
    (some_left lot.marginal c.marginal)
draws_on lot y c d (suc (suc zero)) l = ⊎_elim inl (λ (h : c.bad < lot.bad). inr (rw (counting.bad 1 c) (omega arith))) (some_left lot.bad c.bad)
draws_on lot y c d (suc (suc (suc x))) l = absurd (omega arith)

steady : (p : List Stage) (lot : Weights) → Steady (chance_value p (left_of lot)) (λ y. weight_sum lot - y) (Drawn lot)
steady p lot = record { sum = λ y c d. omega arith; next = draws_on lot }

-- ---- their sums multiplied are all ordered draws

falls : (t y n : ℕ) → sum_product (λ k. t - k) y n ≡ falling (t - y) n
falls t y zero = refl
falls t y (suc n) = let one : t - suc y ≡ t - y - 1 = omega arith in ap (λ (k : ℕ). (t - y) * k) (falls t (suc y) n ∙ ap (λ (k : ℕ). falling k n) one)

some_draws : (t n : ℕ) → n ≤ t → 0 < falling t n
some_draws t zero h = omega arith
some_draws t (suc n) h = mul-pos (omega arith) (some_draws (t - 1) n (omega arith))

-- ---- the bounds

pub lot_law : LotLaw
unfolding lot_low lot_high accepted_sum
lot_law plan lot ok whole enough =
    let p : List Stage = stages plan in
    let w : Weights = numbers lot in
    let v = chance_value p (left_of w) in
    let all = falls (weight_sum w) 0 (total p) ∙ ap (λ (k : ℕ). falling k (total p)) (omega (arith, length_is lot whole)) ∙ sym (counted (total p) lot) in
    let accepted = sym (weighed (total p) (λ x. indicator (verdict p x)) lot whole) in
    let e = rounding_law v (λ y. weight_sum w - y) (Drawn w) (steady p w) (total p) 0 no_units (omega arith) in
    let d = rw (all, exact p (promise plan ok) (left_of w), accepted) at e in
    record {
      from_below = rw (mul_comm (accepted_draws p lot) scale) d.0;
      from_above = rw (mul_comm (accepted_draws p lot) scale) d.1;
      close = omega (arith, width v (total p) no_units);
      close_as_written = omega (arith, width v (total p) no_units);
      ordered = le_of_mul-le-mul_right (le_trans d.0 d.1) (rw (counted (total p) lot) (some_draws (length lot) (total p) enough));
      at_most_one = at_most_scale up p (left_of w) (total p) no_units;
    }
