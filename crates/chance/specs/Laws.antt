-- The laws of the chance of acceptance, its bounds, its chart and its refusals: statements alone. They are proved in
-- proofs/Laws.antt.
use Rattle.std.specs.Prelude.{ℕ, zero, suc, ◌+◌, ◌-◌, ◌*◌, ◌^◌, ◌≤◌, ◌<◌, ◌≡◌, ◌⊎◌, true, List, length}
use Rattle.plan.specs.declared.counts.Counts.{Counts}
use Rattle.plan.specs.declared.refusal.Refusal.{Refusal}
use Rattle.plan.specs.declared.stage.Stage.{Stage}
use Rattle.plan.specs.Plan.{stages, total, admitted}
use Rattle.plan.specs.Counts.{add_units}
use Rattle.plan.specs.Refusal.{First, RefusedByNumber}
use Rattle.chance.specs.declared.mean.Weights.{Weights}
use Rattle.chance.specs.Bounds.{weight_sum, weight, down, up, Valuation, bound, value_sum}
use Rattle.chance.specs.Chance.{scale, constant, low, high, accepted_sum}
use Rattle.chance.specs.Fraction.{quotient, Exactly}
use Rattle.chance.specs.Reply.{bounds_reply, chart_reply, refusals, chance_answer, chart_answer, Keeps}

-- ---- rounding and width, for steps with any weights

-- the two bounds come apart by at most one for each unit left
abbrev pub WidthLaw : Type 0
WidthLaw = (v : Valuation) (n : ℕ) (c : Counts) → bound up v n c ≤ bound down v n c + n

-- weights whose sum depends on the number of units alone, at the counts that have a weight
pub record Steady (v : Valuation) (sums : ℕ → ℕ) (Reached : ℕ → Counts → Type 0) : Type 0 where
  pub sum : (y : ℕ) (c : Counts) → Reached y c → weight_sum (v.weights c) ≡ sums y
  pub next : (y : ℕ) (c : Counts) → Reached y c → (x : ℕ) → x ≤ 2 → (weight x (v.weights c) ≡ 0) ⊎ Reached (suc y) (add_units x 1 c)

-- the product of the sums of the weights at n units after y
abbrev pub sum_product : (ℕ → ℕ) → ℕ → ℕ → ℕ
sum_product sums y zero = 1
sum_product sums y (suc n) = sums y * sum_product sums (suc y) n

-- the two bounds enclose the exact sum
abbrev pub RoundingLaw : Type 1
RoundingLaw = (v : Valuation) (sums : ℕ → ℕ) (Reached : ℕ → Counts → Type 0) → Steady v sums Reached → (n y : ℕ) (c : Counts) → Reached y c →
    (bound down v n c * sum_product sums y n ≤ value_sum v n c) × (value_sum v n c ≤ bound up v n c * sum_product sums y n)

-- ---- the chance of acceptance

pub record Encloses (p : List Stage) (w : Weights) : Type 0 where
  pub from_below : low p w * weight_sum w ^ total p ≤ accepted_sum p (constant w) * scale
  pub from_above : accepted_sum p (constant w) * scale ≤ high p w * weight_sum w ^ total p
  -- by at most one for each unit; 01 asks for two
  pub close : high p w - low p w ≤ total p
  pub close_as_written : high p w - low p w ≤ 2 * total p
  pub ordered : low p w ≤ high p w
  pub at_most_one : high p w ≤ scale

-- of every admitted plan, and all weights that do not add to 0
abbrev pub ChanceLaw : Type 0
ChanceLaw = (plan : List ℕ) (w : Weights) → admitted plan ≡ true → 0 < weight_sum w → Encloses (stages plan) w

-- ---- floats: x / 2 ^ k is exact for every x of at most 53 binary digits and every k up to 1074

abbrev pub FractionLaw : Type 0
FractionLaw = (k x : ℕ) → k ≤ 1074 → x < 2 ^ 53 → Exactly (quotient x k) x k

-- ---- demand 1: refused with a number exactly when that is the first row that applies, and none that applies stands before it
-- in the table

abbrev pub RefusalLaw : Type 0
RefusalLaw = (plan : List ℕ) (w : Weights) (n : ℕ) →
    RefusedByNumber (refusals plan w n) (bounds_reply (chance_answer plan w n)) ×
    RefusedByNumber (refusals plan w n) (chart_reply (chart_answer plan w n))

-- a refused call leaves every word of the scratch
abbrev pub WordsLaw : Type 0
WordsLaw = (plan : List ℕ) (w : Weights) (before after : List ℕ) (r : Refusal) → First (refusals plan w (length before)) r
    → Keeps plan w before after → after ≡ before
