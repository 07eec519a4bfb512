-- Rounding at each unit, for steps with any weights: one division, and how far the two bounds come apart.
-- Assumes nothing.
use Prim.Native.Nat.{ℕ, zero, suc, ◌+◌, ◌-◌, ◌*◌, ◌/◌, ◌≤◌, ◌<◌}
use mathlib.Core.Path.{◌≡◌, refl, ap, ◌∙◌}
use mathlib.Core.Bool.{Bool, true, false, cond}
use native.Mathlib.Nat.{div-zero, div-mul-le_self, div-lt_iff_lt-mul, lt-div-mul-add, add-mul, mul-add, mul_comm, mul-le-mul_left, mul-zero, div-eq_of_lt, zero-div, div-le_of_le-mul, add-zero, mul-add-div, mul-div_cancel_left}
use native.Mathlib.Omega.{arith}
use Rattle.plan.specs.declared.counts.Counts.{Counts}
use Rattle.plan.specs.declared.stage.Answer.{Answer}
use Rattle.plan.specs.declared.stage.Answer.TheVariants.{GoOn, Accept, Reject}
use Rattle.plan.specs.Counts.{add_units}
use Rattle.chance.specs.declared.mean.Weights.{Weights}
use Rattle.chance.specs.Bounds.{weight_sum, weighted, weighted_sum, Rounding, down, up, rounded, Valuation, terminal, step, bound}
use Rattle.chance.specs.Layer.{rounding}
use Rattle.chance.specs.Laws.{WidthLaw}

div_below : (k x y : ℕ) → 0 < k → x < y * k → x / k < y
div_below k x y h l = (div-lt_iff_lt-mul h).1 l

-- rounding up what is at most b + d·n gives at most n + 1 more than rounding b down, for every divisor
round_close : (d a b n : ℕ) → a ≤ b + d * n → rounded up a d ≤ rounded down b d + (n + 1)
round_close zero a b n h = simp div-zero (omega arith)
round_close (suc e) a b n h =
    let q = lt-div-mul-add {a = b} {b = suc e} (omega arith) in
    let r = div_below (suc e) (a + (suc e - 1)) (b / suc e + (n + 2)) (omega arith) (simp add-mul (omega (arith, mul_comm (suc e) n))) in
    omega arith

pub floor_le : (a d : ℕ) → rounded down a d * d ≤ a
floor_le a d = div-mul-le_self a d

pub ceiling_ge : (a d : ℕ) → 0 < d → a ≤ rounded up a d * d
ceiling_ge a d h = omega (arith, lt-div-mul-add {a = a + (d - 1)} {b = d} h)

-- by what is added, a quotient is rounded
pub rounds : (up : Bool) (n d : ℕ) → (n + cond up (d - 1) 0) / d ≡ rounded (rounding up) n d
rounds true n d = refl
rounds false n d = ap (λ (k : ℕ). k / d) (add-zero n)

-- a mean is at most what its values are; divided by 0 it is 0
pub rounded_le : (r : Rounding) (n d most : ℕ) → n ≤ d * most → rounded r n d ≤ most
rounded_le down n d most l = div-le_of_le-mul d l
rounded_le up n zero most l = simp div-zero (omega arith)
rounded_le up n (suc e) most l =
    omega (arith, div_below (suc e) (n + (suc e - 1)) (most + 1) (omega arith) (simp add-mul (omega (arith, mul_comm (suc e) most))))

pub rounded_zero : (r : Rounding) (d : ℕ) → rounded r 0 d ≡ 0
rounded_zero down d = zero-div d
rounded_zero up zero = refl
rounded_zero up (suc e) = div-eq_of_lt (omega arith)

-- the mean of three equal values is that value
sum_even : (w : Weights) (k : ℕ) → weighted w k k k ≡ weight_sum w * k
sum_even w k = simp add-mul

rounded_even : (r : Rounding) (d k : ℕ) → 0 < d → rounded r (d * k) d ≡ k
rounded_even down d k h = mul-div_cancel_left k h
rounded_even up d k h = mul-add-div h k (d - 1) ∙ ap (λ (n : ℕ). k + n) (div-eq_of_lt (omega arith)) ∙ add-zero k

pub mean_even : (r : Rounding) (w : Weights) (k : ℕ) → 0 < weight_sum w → rounded r (weighted w k k k) (weight_sum w) ≡ k
mean_even r w k h = ap (λ (n : ℕ). rounded r n (weight_sum w)) (sum_even w k) ∙ rounded_even r (weight_sum w) k h

-- values that are at most n above others have a weighted sum at most W·n above theirs
pub weighted_le : (w : Weights) (f g : ℕ → ℕ) (n : ℕ) → ((x : ℕ) → x ≤ 2 → f x ≤ g x + n) → weighted_sum w f ≤ weighted_sum w g + weight_sum w * n
weighted_le w f g n h =
    let a = mul-le-mul_left w.good (h 0 (omega arith)) in
    let b = mul-le-mul_left w.marginal (h 1 (omega arith)) in
    let c = mul-le-mul_left w.bad (h 2 (omega arith)) in
    simp add-mul (omega (arith, simp mul-add at a, simp mul-add at b, simp mul-add at c))

-- a step's two values come apart by one more than those that it is made of
step_close : (v : Valuation) (above below : Counts → ℕ) (c : Counts) (n : ℕ)
    → ((x : ℕ) → x ≤ 2 → above (add_units x 1 c) ≤ below (add_units x 1 c) + n) → step up v above c ≤ step down v below c + (n + 1)
step_close v above below c n h = go (v.decision c)
  where
    w : Weights
    w = v.weights c

    f : ℕ → ℕ
    f x = above (add_units x 1 c)

    g : ℕ → ℕ
    g x = below (add_units x 1 c)

    go : (a : Answer) → terminal v a (v.cost + rounded up (weighted_sum w f) (weight_sum w)) ≤ terminal v a (v.cost + rounded down (weighted_sum w g) (weight_sum w)) + (n + 1)
    go GoOn = omega (arith, round_close (weight_sum w) (weighted_sum w f) (weighted_sum w g) n (weighted_le w f g n h))
    go Accept = omega arith
    go Reject = omega arith

-- with no unit left the two are equal
last_equal : (v : Valuation) (c : Counts) → bound up v 0 c ≡ bound down v 0 c
last_equal v c = simp (mul-zero, rounded_zero up, zero-div)

pub width : WidthLaw
width v zero c = omega (arith, last_equal v c)
width v (suc n) c = omega (arith, step_close v (bound up v n) (bound down v n) c n (λ x l. width v n (add_units x 1 c)))
