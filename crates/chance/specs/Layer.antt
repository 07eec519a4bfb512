-- A layer of the backward induction, the values of the counts of y units, as a run of words: what the contracts of the inner
-- functions cite. The word of g nongood and b bad units stands at g * r2 + b; the words of one g are a row.
use Rattle.std.specs.Prelude.{ℕ, ◌+◌, ◌-◌, ◌*◌, ◌≤◌, ◌<◌, min, ◌≡◌, ◌⊎◌, Bool, true, false, cond, List, length, get_or, ltb}
use Rattle.plan.specs.declared.counts.Counts.{Counts}
use Rattle.plan.specs.Plan.{stages, total, last_reject1, last_reject2, admitted}
use Rattle.plan.specs.Counts.{nongood, no_units}
use Rattle.plan.specs.Boundaries.{rejection_at}
use Rattle.plan.specs.Stopping.{earliest}
use Rattle.chance.specs.declared.mean.Weights.{Weights}
use Rattle.chance.specs.declared.setting.Worth.{Worth}
use Rattle.chance.specs.declared.setting.Kind.{Kind}
use Rattle.chance.specs.declared.setting.Kind.TheVariants.{Same, Left}
use Rattle.chance.specs.declared.setting.Setting.{Setting}
use Rattle.chance.specs.declared.row.Undecided.{Undecided}
use Rattle.chance.specs.Bounds.{Bounds, weight_sum, weighted, Rounding, down, up, rounded, Valuation, step, bound}
use Rattle.chance.specs.Chance.{scale, left_of}

abbrev pub rounding : Bool → Rounding
rounding false = down
rounding true = up

-- constant weights, or what is left of them
abbrev pub weights_by : Kind → Weights → Counts → Weights
weights_by Same w c = w
weights_by Left w c = left_of w c

-- a value at acceptance, none at rejection, and a cost of each further unit
abbrev pub valuation : List ℕ → Worth → Weights → Kind → Valuation
valuation plan worth w kind =
    record { decision = earliest (stages plan); weights = weights_by kind w; accepted = worth.accepted; rejected = 0; cost = worth.cost }

abbrev pub setting_weights : Setting → Counts → Weights
setting_weights s = weights_by s.kind s.weights

-- what the layers of a setting bound
abbrev pub setting_value : List ℕ → Setting → Valuation
setting_value plan s = valuation plan s.worth s.weights s.kind

-- both bounds before any unit
abbrev pub valued_bounds : List ℕ → Valuation → Bounds
valued_bounds plan v = record { low = bound down v (total (stages plan)) no_units; high = bound up v (total (stages plan)) no_units }

-- the counts of y units of which g are nongood and b bad
abbrev pub at : ℕ → ℕ → ℕ → Counts
at y g b = record { good = y - g; marginal = g - b; bad = b }

-- the word of g nongood and b bad units; 0 where g reaches r1 or b reaches r2
abbrev pub word : ℕ → ℕ → List ℕ → ℕ → ℕ → ℕ
word r1 r2 layer g b = cond (ltb g r1) (cond (ltb b r2) (get_or layer (g * r2 + b) 0) 0) 0

abbrev pub word_of : Setting → List ℕ → Counts → ℕ
word_of s layer c = word s.r1 s.r2 layer (nongood c) c.bad

-- ---- what is asked

-- no value of a layer of y units is more, so that no sum of three by their weights passes 64 bits
abbrev pub most : Setting → ℕ → ℕ
most s y = s.worth.accepted + s.worth.cost * (1001 - y)

-- the first n words are at most m
abbrev pub Values : ℕ → ℕ → List ℕ → Type 0
Values n m layer = (i : ℕ) → i < n → get_or layer i 0 ≤ m

-- a run of words that has the values of a layer
pub record Valued (layer : List ℕ) (s : Setting) : Type 0 where
  pub room : s.r1 * s.r2 ≤ length layer
  pub values : Values (s.r1 * s.r2) scale layer

-- a row of a layer, and a number of bad units up to which it is stepped
pub record Between (s : Setting) (y g to : ℕ) : Type 0 where
  pub inside : g < s.r1
  pub few : g ≤ y
  pub thousand : y ≤ 1000
  pub upto : to ≤ min (g + 1) s.r2

-- the weights are not all 0 at the states between two numbers of bad units
abbrev pub Weighs : Setting → ℕ → ℕ → ℕ → ℕ → Type 0
Weighs s y g from to = (b : ℕ) → from ≤ b → b < to → b ≤ g → 0 < weight_sum (setting_weights s (at y g b))

-- a setting that suits the plan: weights that fall last for the whole sample
pub record Suits (plan : List ℕ) (s : Setting) : Type 0 where
  pub admitted : admitted plan ≡ true
  pub enough : s.kind ≡ Left → total (stages plan) ≤ weight_sum s.weights
  pub reject1 : s.r1 ≡ last_reject1 (stages plan)
  pub reject2 : s.r2 ≡ last_reject2 (stages plan)

-- what a step to the layer of y units needs
pub record Ready (plan layer : List ℕ) (s : Setting) (y : ℕ) : Type 0 where
  pub suits : Suits plan s
  pub units : y ≤ total (stages plan)
  pub room : s.r1 * s.r2 ≤ length layer
  pub values : Values (s.r1 * s.r2) (most s (y + 1)) layer

-- the same once the rows before the one of `first` nongood units are stepped
pub record Partly (layer : List ℕ) (s : Setting) (y first : ℕ) : Type 0 where
  pub thousand : y ≤ 1000
  pub room : s.r1 * s.r2 ≤ length layer
  pub values : Values (s.r1 * s.r2) (most s y) layer
  pub ahead : (i : ℕ) → first * s.r2 ≤ i → i < s.r1 * s.r2 → get_or layer i 0 ≤ most s (y + 1)

-- the number of bad units from which on a stage rejects, and rows of y units with fewer nongood ones than it rejects
pub record Limited (plan : List ℕ) (s : Setting) (y reject rows : ℕ) : Type 0 where
  pub reject_is : reject ≡ (rejection_at 0 (stages plan) y).bad
  pub unrejected : rows ≤ (rejection_at 0 (stages plan) y).nongood
  pub reached : rows ≤ y + 1
  pub inside : rows ≤ s.r1

-- the states of y units with n nongood ones or more have the word 0
abbrev pub Cleared : Setting → ℕ → ℕ → List ℕ → Type 0
Cleared s y n layer = (g b : ℕ) → n ≤ g → g ≤ y → g < s.r1 → b ≤ g → b < s.r2 → get_or layer (g * s.r2 + b) 0 ≡ 0

-- what the backward induction needs
pub record Prepared (plan layer : List ℕ) (s : Setting) : Type 0 where
  pub suits : Suits plan s
  pub room : s.r1 * s.r2 ≤ length layer

-- ---- what is done

-- words from the nth on are as they were
abbrev pub Beyond : ℕ → List ℕ → List ℕ → Type 0
Beyond n before after = (i : ℕ) → n ≤ i → get_or after i 0 ≡ get_or before i 0

-- words before m and from n on are as they were
abbrev pub Outside : ℕ → ℕ → List ℕ → List ℕ → Type 0
Outside m n before after = (i : ℕ) → (i < m) ⊎ (n ≤ i) → get_or after i 0 ≡ get_or before i 0

pub record Filled (from to value : ℕ) (before after : List ℕ) : Type 0 where
  pub done : (i : ℕ) → from ≤ i → i < to → get_or after i 0 ≡ value
  pub others : Outside from to before after

-- the value of a state where inspection goes on, by the values after a good, a marginal and a bad unit
abbrev pub state_value : Setting → ℕ → ℕ → ℕ → ℕ → ℕ → ℕ → ℕ
state_value s y g b good marginal bad =
    s.worth.cost + rounded (rounding s.up) (weighted (setting_weights s (at y g b)) good marginal bad) (weight_sum (setting_weights s (at y g b)))

-- by the words one unit on
abbrev pub further : Setting → List ℕ → ℕ → ℕ → ℕ → ℕ
further s layer y g b = state_value s y g b (word s.r1 s.r2 layer g b) (word s.r1 s.r2 layer (g + 1) b) (word s.r1 s.r2 layer (g + 1) (b + 1))

pub record Further (s : Setting) (y g from to : ℕ) (before after : List ℕ) : Type 0 where
  pub done : (b : ℕ) → from ≤ b → b < to → get_or after (g * s.r2 + b) 0 ≡ further s before y g b
  pub others : Outside (g * s.r2 + from) (g * s.r2 + to) before after

-- the same down to b bad units, with the value of the next row there
pub record FurtherTo (s : Setting) (y g from to : ℕ) (before layer : List ℕ) (bad b : ℕ) : Type 0 where
  pub same : length layer ≡ length before
  pub at_least : min from to ≤ b
  pub at_most : b ≤ to
  pub done : (k : ℕ) → b ≤ k → k < to → get_or layer (g * s.r2 + k) 0 ≡ further s before y g k
  pub others : Outside (g * s.r2 + b) (g * s.r2 + to) before layer
  pub bad_is : bad ≡ word s.r1 s.r2 before (g + 1) b

-- the value of a state by the limits: accepted with fewer than `accept` bad units, else rejected from `reject` on
abbrev pub by_limits : Setting → ℕ → ℕ → ℕ → ℕ → ℕ
by_limits s accept reject b on = cond (ltb b accept) s.worth.accepted (cond (ltb b reject) on 0)

-- after the decided states of the row of g nongood units are written, and the others
pub record Decided (s : Setting) (g accept reject : ℕ) (before after : List ℕ) (u : Undecided) : Type 0 where
  pub from_is : u.from ≡ min accept (min (g + 1) s.r2)
  pub to_is : u.to ≡ min reject (min (g + 1) s.r2)
  pub accepted : (b : ℕ) → b < u.from → get_or after (g * s.r2 + b) 0 ≡ s.worth.accepted
  pub rejected : (b : ℕ) → u.from ≤ b → u.to ≤ b → b < min (g + 1) s.r2 → get_or after (g * s.r2 + b) 0 ≡ 0
  pub undecided : (b : ℕ) → u.from ≤ b → b < u.to → get_or after (g * s.r2 + b) 0 ≡ get_or before (g * s.r2 + b) 0
  pub others : Outside (g * s.r2) (g * s.r2 + min (g + 1) s.r2) before after

-- after a step of the row of g nongood units
pub record SteppedRow (s : Setting) (y g accept reject : ℕ) (before after : List ℕ) : Type 0 where
  pub done : (b : ℕ) → b ≤ g → b < s.r2 → get_or after (g * s.r2 + b) 0 ≡ by_limits s accept reject b (further s before y g b)
  pub others : Outside (g * s.r2) (g * s.r2 + min (g + 1) s.r2) before after

-- after a step of the rows from that of `first` nongood units on and before that of `end`, to the values of their states
pub record SteppedRows (value : ℕ → ℕ → ℕ) (s : Setting) (y first end : ℕ) (before after : List ℕ) : Type 0 where
  pub done : (g b : ℕ) → first ≤ g → g < end → b ≤ g → b < s.r2 → get_or after (g * s.r2 + b) 0 ≡ value g b
  pub others : Outside (first * s.r2) (end * s.r2) before after
  pub values : Values (s.r1 * s.r2) (most s y) after

-- the value of a state where nothing is accepted
abbrev pub open_value : Setting → ℕ → ℕ → List ℕ → ℕ → ℕ → ℕ
open_value s y reject before g b = by_limits s 0 reject b (further s before y g b)

-- that of a state by the plan
abbrev pub step_value : List ℕ → Setting → ℕ → List ℕ → ℕ → ℕ → ℕ
step_value plan s y before g b = step (rounding s.up) (setting_value plan s) (word_of s before) (at y g b)

-- after a step of the whole layer
pub record SteppedLayer (plan : List ℕ) (s : Setting) (y : ℕ) (before after : List ℕ) : Type 0 where
  pub done : (g b : ℕ) → b ≤ g → g ≤ y → g < s.r1 → b < s.r2 → get_or after (g * s.r2 + b) 0 ≡ step_value plan s y before g b
  pub beyond : Beyond (s.r1 * s.r2) before after
  pub values : Values (s.r1 * s.r2) (most s y) after
