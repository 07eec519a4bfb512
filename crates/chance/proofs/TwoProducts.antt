-- The mean with constant weights, by two products. Assumes nothing.
use Prim.Native.Nat.{ℕ, ◌+◌, ◌-◌, ◌*◌, ◌/◌, ◌≤◌}
use mathlib.Core.Path.{◌≡◌, ap, ◌∙◌}
use mathlib.Core.Bool.{Bool, true, false, cond}
use native.Mathlib.Nat.{add-mul, mul-add, mul_right_comm, mul-le-mul_left, mul-add-div}
use native.Mathlib.Omega.{arith}
use Rattle.chance.specs.declared.division.Reciprocal.{Reciprocal}
use Rattle.chance.specs.declared.setting.Setting.{Setting}
use Rattle.chance.specs.declared.constant.Constant.{Constant}
use Rattle.chance.specs.Bounds.{weight_sum, weighted}
use Rattle.chance.specs.Chance.{scale}
use Rattle.chance.specs.Constant.{constant_sum, constant_value}
use Rattle.chance.proofs.Rounding.{rounds}
use Rattle.chance.proofs.Reciprocals.{scaled, scaled_fits}
use Rattle.chance.proofs.States.{products}

added_most : (b : Bool) (n : ℕ) → cond b (n - 1) 0 ≤ n
added_most true n = omega arith
added_most false n = omega arith

-- ---- what is the same for all states

pub record Small (s : Setting) (d : Reciprocal) : Type 0 where
  pub of_cost : weight_sum s.weights * s.worth.cost ≤ weight_sum s.weights * 1099511627776
  pub marginal : s.weights.marginal * d.scale ≤ 1048576
  pub bad : s.weights.bad * d.scale ≤ 1048576
  pub added : constant_sum s * d.scale ≤ 1048576 * 2199023255553

pub small : (s : Setting) (d : Reciprocal) → d.by ≡ weight_sum s.weights → Small s d
small s d of_sum =
    let cheap : s.worth.cost ≤ scale = omega (arith, s.worth.fits) in
    let of_cost = mul-le-mul_left (weight_sum s.weights) cheap in
    record {
      of_cost = of_cost;
      marginal = omega (arith, scaled_fits s.weights.marginal d 1 (omega (arith, of_sum)));
      bad = omega (arith, scaled_fits s.weights.bad d 1 (omega (arith, of_sum)));
      added = scaled_fits (constant_sum s) d 2199023255553 (omega (arith, of_sum, of_cost, added_most s.up (weight_sum s.weights)));
    }

-- ---- one state

-- with the weights a, b and c, of the values g, m and n
spread : (a b c g m n rest cost more : ℕ) → g + rest ≡ 1099511627776
    → b * (m + rest) + c * (n + rest) + (a * 1099511627776 + (a + b + c) * cost + more) ≡ (a + b + c) * (cost + rest) + (a * g + b * m + c * n + more)
spread a b c g m n rest cost more e =
    omega
    (arith, mul-add b m rest, mul-add c n rest, mul-add a g rest, ap (λ (k : ℕ). a * k) e, mul-add (a + b + c) cost rest, add-mul (a + b) c rest, add-mul a b rest)

times : (a b c k x y : ℕ) → a * k * x + b * k * y + c * k ≡ (a * x + b * y + c) * k
times a b c k x y = omega (arith, mul_right_comm a k x, mul_right_comm b k y, add-mul (a * x + b * y) c k, add-mul (a * x) (b * y) k)

-- the sum of the two products, and its quotient
pub record Blended (t : Constant) (good marginal bad rest : ℕ) : Type 0 where
  pub fits : t.marginal * (marginal + rest) + t.bad * (bad + rest) + t.added ≤ 1048576 * 3298534883329
  pub value : (t.marginal * (marginal + rest) + t.bad * (bad + rest) + t.added) / (t.divisor.by * t.divisor.scale)
      ≡ rest + constant_value t.setting good marginal bad

pub blended : (t : Constant) {good marginal bad : ℕ} → (good ≤ scale) × (marginal ≤ scale) × (bad ≤ scale)
    → Blended t good marginal bad (1099511627776 - good)
blended t {good} {marginal} {bad} m =
    let s = t.setting in
    let w = s.weights in
    let d = t.divisor in
    let rest : ℕ = 1099511627776 - good in
    let more : ℕ = cond s.up (weight_sum w - 1) 0 in
    let mean : ℕ = weighted w good marginal bad + more in
    let n : ℕ = weight_sum w * (s.worth.cost + rest) + mean in
    let sum : t.marginal * (marginal + rest) + t.bad * (bad + rest) + t.added ≡ n * d.scale
    = (λ i. t.marginal_is i * (marginal + rest) + t.bad_is i * (bad + rest) + t.added_is i)
    ∙ times w.marginal w.bad (constant_sum s) d.scale (marginal + rest) (bad + rest)
    ∙ ap (λ (k : ℕ). k * d.scale) (spread w.good w.marginal w.bad good marginal bad rest s.worth.cost more (omega (arith, m.0))) in
    let double : s.worth.cost + rest ≤ 2199023255552 = omega (arith, s.worth.fits) in
    let few : n ≤ d.by * 3298534883329
    = omega (arith, t.of_sum, products w m, mul-le-mul_left (weight_sum w) double, added_most s.up (weight_sum w)) in
    record {
      fits = omega (arith, sum, scaled_fits n d 3298534883329 few);
      value = ap (λ (k : ℕ). k / (d.by * d.scale)) sum
          ∙ scaled n d
          ∙ ap (λ (k : ℕ). n / k) t.of_sum
          ∙ mul-add-div s.proportions.some (s.worth.cost + rest) mean
          ∙ ap (λ (k : ℕ). s.worth.cost + rest + k) (rounds s.up (weighted w good marginal bad) (weight_sum w))
          ∙ omega arith;
    }
