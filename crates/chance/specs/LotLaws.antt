-- The laws of the chance for lots of known size: statements alone. They are proved in proofs/Laws.antt. Document 02, change 2.
use Rattle.std.specs.Prelude.{ℕ, zero, suc, ◌-◌, ◌*◌, ◌≤◌, ◌≡◌, ◌≢◌, true, List, length}
use Rattle.plan.specs.declared.refusal.Refusal.{Refusal}
use Rattle.plan.specs.declared.stage.Stage.{Stage}
use Rattle.plan.specs.Plan.{stages, total, admitted}
use Rattle.plan.specs.Counts.{no_units}
use Rattle.plan.specs.Refusal.{First, RefusedByNumber}
use Rattle.plan.specs.Reply.{refused}
use Rattle.chance.specs.declared.mean.Weights.{Weights}
use Rattle.chance.specs.Bounds.{sum_over, weight_product}
use Rattle.chance.specs.Chance.{scale, left_of}
use Rattle.chance.specs.Reply.{weights_of, bounds_reply}
use Rattle.chance.specs.Lot.{Lot, draw_sum, all_draws, accepted_draws, numbers, lot_low, lot_high, lot_bounds, lot_refusals, lot_answer, LotKeeps}

-- ---- ordered draws

-- t (t - 1) (t - 2) .., n of them
abbrev pub falling : ℕ → ℕ → ℕ
falling t zero = 1
falling t (suc n) = t * falling (t - 1) n

-- of every lot, and draws of any number of units
pub record Draws (lot : List ℕ) (n : ℕ) : Type 0 where
  -- there are T (T - 1) .. (T - n + 1)
  pub counted : draw_sum n (λ x. 1) lot ≡ falling (length lot) n
  -- a sequence of classes is drawn in as many ways as the product of what is left of each class at its turn
  pub weighed : (f : List ℕ → ℕ) → draw_sum n f lot ≡ sum_over n (λ x. f x * weight_product (left_of (numbers lot)) no_units x)
  -- so these products add up to all draws
  pub added : sum_over n (weight_product (left_of (numbers lot)) no_units) ≡ falling (length lot) n

abbrev pub DrawsLaw : Type 0
DrawsLaw = (lot : List ℕ) (n : ℕ) → Lot lot → Draws lot n

-- ---- the chance of acceptance

pub record LotEncloses (p : List Stage) (lot : List ℕ) : Type 0 where
  pub from_below : lot_low p (numbers lot) * all_draws p lot ≤ accepted_draws p lot * scale
  pub from_above : accepted_draws p lot * scale ≤ lot_high p (numbers lot) * all_draws p lot
  -- by at most one for each unit; 02 asks for two
  pub close : lot_high p (numbers lot) - lot_low p (numbers lot) ≤ total p
  pub close_as_written : lot_high p (numbers lot) - lot_low p (numbers lot) ≤ 2 * total p
  pub ordered : lot_low p (numbers lot) ≤ lot_high p (numbers lot)
  pub at_most_one : lot_high p (numbers lot) ≤ scale

-- of every admitted plan, and all lots of no fewer units than the sample
abbrev pub LotLaw : Type 0
LotLaw = (plan lot : List ℕ) → admitted plan ≡ true → Lot lot → total (stages plan) ≤ length lot → LotEncloses (stages plan) lot

-- all numbers of good, marginal and bad units are those of a lot
abbrev pub NumbersLaw : Type 0
NumbersLaw = (w : Weights) → (lot : List ℕ) × Lot lot × (numbers lot ≡ w)

-- a lot of t good units is accepted for certain, and one of t bad units never
abbrev pub CertainLaw : Type 0
CertainLaw = (plan : List ℕ) (t : ℕ) → admitted plan ≡ true → total (stages plan) ≤ t →
    (lot_bounds (stages plan) (weights_of t 0 0) ≡ record { low = scale; high = scale }) ×
    (lot_bounds (stages plan) (weights_of 0 0 t) ≡ record { low = 0; high = 0 })

-- ---- demand 1

abbrev pub LotRefusalLaw : Type 0
LotRefusalLaw = (plan : List ℕ) (lot : Weights) (n : ℕ) → RefusedByNumber (lot_refusals plan lot n) (bounds_reply (lot_answer plan lot n))

-- the call takes no weights, so that 13 is never its reply
abbrev pub LotWeightsLaw : Type 0
LotWeightsLaw = (plan : List ℕ) (lot : Weights) (n : ℕ) → bounds_reply (lot_answer plan lot n) ≢ refused 13

-- a refused call leaves every word of the scratch
abbrev pub LotWordsLaw : Type 0
LotWordsLaw = (plan : List ℕ) (lot : Weights) (before after : List ℕ) (r : Refusal) → First (lot_refusals plan lot (length before)) r
    → LotKeeps plan lot before after → after ≡ before
