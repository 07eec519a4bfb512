-- A step with constant weights: what the contracts of the inner functions cite.
use Rattle.std.specs.Prelude.{ℕ, ◌+◌, ◌-◌, ◌*◌, ◌≤◌, ◌<◌, ◌≡◌, cond, List, length, get_or, set}
use Rattle.chance.specs.declared.setting.Setting.{Setting}
use Rattle.chance.specs.Bounds.{weight_sum, weighted, rounded}
use Rattle.chance.specs.Chance.{scale}
use Rattle.chance.specs.Layer.{rounding}

-- the cost and the mean
abbrev pub constant_value : Setting → ℕ → ℕ → ℕ → ℕ
constant_value s good marginal bad = s.worth.cost + rounded (rounding s.up) (weighted s.weights good marginal bad) (weight_sum s.weights)

-- what is added to the products, before it is scaled
abbrev pub constant_sum : Setting → ℕ
constant_sum s = s.weights.good * scale + weight_sum s.weights * s.worth.cost + cond s.up (weight_sum s.weights - 1) 0

-- two words of a layer and a value that a mean can be taken of
pub record Legible (layer : List ℕ) (place next bad : ℕ) : Type 0 where
  pub place_in : place < length layer
  pub next_in : next < length layer
  pub good_most : get_or layer place 0 ≤ scale
  pub marginal_most : get_or layer next 0 ≤ scale
  pub bad_most : bad ≤ scale

-- after a step of that place; the word that was read in the next row is given back
pub record SteppedState (s : Setting) (place next bad : ℕ) (before after : List ℕ) (marginal : ℕ) : Type 0 where
  pub read : marginal ≡ get_or before next 0
  pub written : after ≡ set before place (constant_value s (get_or before place 0) (get_or before next 0) bad)
