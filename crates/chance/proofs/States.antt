-- One state of a layer: where its word stands, what its step reads, and what its value is.
-- Assumes nothing.
use Prim.Native.Nat.{ℕ, ◌+◌, ◌*◌, ◌≤◌, ◌<◌}
use mathlib.Core.Path.{◌≡◌, refl, ap}
use mathlib.Core.Bool.{Bool, true, false, cond}
use mathlib.Core.List.{List}
use lib.ListN.{get_or}
use lib.Dec.{ltb}
use borrow.Author.Tests.{ltb-true, lt-ltb}
use native.Mathlib.Nat.{mul-le-mul_left, mul-le-mul_right, suc-mul, add-mul}
use native.Mathlib.Omega.{arith}
use Rattle.chance.specs.declared.mean.Weights.{Weights}
use Rattle.chance.specs.declared.setting.Setting.{Setting}
use Rattle.chance.specs.declared.setting.Kind.TheVariants.{Same}
use Rattle.chance.specs.Bounds.{weight_sum, weighted, Rounding, rounded}
use Rattle.chance.specs.Constant.{constant_value}
use Rattle.chance.specs.Layer.{rounding, setting_weights, at, word, state_value, further, Values}
use Rattle.chance.proofs.Rounding.{rounded_le}

-- ---- the mean of three values, none above m

-- no product of the mean is too large
pub record Products (w : Weights) (m good marginal bad : ℕ) : Type 0 where
  pub of_good : w.good * good ≤ w.good * m
  pub of_marginal : w.marginal * marginal ≤ w.marginal * m
  pub of_bad : w.bad * bad ≤ w.bad * m

module _ (w : Weights) {m good marginal bad : ℕ} (h : (good ≤ m) × (marginal ≤ m) × (bad ≤ m)) where
  pub products : Products w m good marginal bad
  products = record { of_good = mul-le-mul_left w.good h.0; of_marginal = mul-le-mul_left w.marginal h.1; of_bad = mul-le-mul_left w.bad h.2 }

  pub mean_at_most : (r : Rounding) → rounded r (weighted w good marginal bad) (weight_sum w) ≤ m
  mean_at_most r = rounded_le r (weighted w good marginal bad) (weight_sum w) m (simp add-mul (omega (arith, products)))

-- ---- the word of a state

pub inside : (r1 r2 g b : ℕ) → g < r1 → b < r2 → g * r2 + b < r1 * r2
inside r1 r2 g b h l = omega (arith, mul-le-mul_right r2 h, suc-mul g r2)

pub next_row : (r2 g : ℕ) → (g + 1) * r2 ≡ g * r2 + r2
next_row r2 g = omega (arith, add-mul g 1 r2)

module _ (r1 r2 : ℕ) (layer : List ℕ) (g b : ℕ) where
  pub word_is : g < r1 → b < r2 → word r1 r2 layer g b ≡ get_or layer (g * r2 + b) 0
  word_is h l = rw (lt-ltb g r1 h, lt-ltb b r2 l)

  pub word_most : (m : ℕ) → (g < r1 → b < r2 → get_or layer (g * r2 + b) 0 ≤ m) → word r1 r2 layer g b ≤ m
  word_most m h = go (ltb g r1) (ltb b r2) refl refl
    where
      go : (p q : Bool) → ltb g r1 ≡ p → ltb b r2 ≡ q → cond p (cond q (get_or layer (g * r2 + b) 0) 0) 0 ≤ m
      go true true e f = h (ltb-true g r1 e) (ltb-true b r2 f)
      go true false e f = omega arith
      go false true e f = omega arith
      go false false e f = omega arith

  pub word_at_most : (m : ℕ) → Values (r1 * r2) m layer → word r1 r2 layer g b ≤ m
  word_at_most m h = word_most m (λ k l. h (g * r2 + b) (inside r1 r2 g b k l))

  pub word_same : (before : List ℕ) → get_or layer (g * r2 + b) 0 ≡ get_or before (g * r2 + b) 0 → word r1 r2 layer g b ≡ word r1 r2 before g b
  word_same before = ap (λ (k : ℕ). cond (ltb g r1) (cond (ltb b r2) k 0) 0)

-- ---- the value of a state where inspection goes on

pub constant_is : (s : Setting) (y g b good marginal bad : ℕ) → s.kind ≡ Same → constant_value s good marginal bad ≡ state_value s y g b good marginal bad
constant_is s y g b good marginal bad e = rw e

module _ (s : Setting) (before : List ℕ) (y g b : ℕ) where
  pub further_is : {good marginal bad : ℕ} → good ≡ word s.r1 s.r2 before g b → marginal ≡ word s.r1 s.r2 before (g + 1) b
      → bad ≡ word s.r1 s.r2 before (g + 1) (b + 1) → state_value s y g b good marginal bad ≡ further s before y g b
  further_is p q r i = state_value s y g b (p i) (q i) (r i)

  -- it looks at its own word and at the next row
  pub further_same : (layer : List ℕ) → get_or layer (g * s.r2 + b) 0 ≡ get_or before (g * s.r2 + b) 0
      → ((i : ℕ) → (g + 1) * s.r2 ≤ i → get_or layer i 0 ≡ get_or before i 0) → further s layer y g b ≡ further s before y g b
  further_same layer own next =
      further_is
      (word_same s.r1 s.r2 layer g b before own)
      (word_same s.r1 s.r2 layer (g + 1) b before (next ((g + 1) * s.r2 + b) (omega arith)))
      (word_same s.r1 s.r2 layer (g + 1) (b + 1) before (next ((g + 1) * s.r2 + (b + 1)) (omega arith)))

  pub further_at_most : (m : ℕ) → ((i : ℕ) → g * s.r2 ≤ i → i < s.r1 * s.r2 → get_or before i 0 ≤ m) → further s before y g b ≤ s.worth.cost + m
  further_at_most m h =
      let at_most : (n k : ℕ) → g ≤ n → word s.r1 s.r2 before n k ≤ m
      = λ n k l. word_most s.r1 s.r2 before n k m (λ p q. h (n * s.r2 + k) (omega (arith, mul-le-mul_right s.r2 l)) (inside s.r1 s.r2 n k p q)) in
      omega (
        arith,
        mean_at_most (setting_weights s (at y g b)) (at_most g b (omega arith), at_most (g + 1) b (omega arith), at_most (g + 1) (b + 1) (omega arith)) (rounding s.up),
      )
