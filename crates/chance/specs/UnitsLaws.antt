-- The laws of the expected number of units: statements alone. They are proved in proofs/Laws.antt. Document 02, change 6.
use Rattle.std.specs.Prelude.{ℕ, zero, suc, ◌-◌, ◌*◌, ◌^◌, ◌≤◌, ◌<◌, ◌≡◌, ◌↔◌, true, List, [], replicate}
use Rattle.plan.specs.declared.stage.Answer.{Answer}
use Rattle.plan.specs.declared.stage.Answer.TheVariants.{Accept, Reject}
use Rattle.plan.specs.declared.stage.Stage.{Stage}
use Rattle.plan.specs.Plan.{stages, total, admitted}
use Rattle.plan.specs.Sample.{verdict, Completion, Stops}
use Rattle.plan.specs.Promise.{earliest_rule}
use Rattle.plan.specs.Refusal.{RefusedByNumber}
use Rattle.chance.specs.declared.mean.Weights.{Weights}
use Rattle.chance.specs.Bounds.{weight_sum}
use Rattle.chance.specs.Chance.{constant}
use Rattle.chance.specs.Reply.{weights_of, bounds_reply, chart_reply, refusals}
use Rattle.chance.specs.Units.{stop_units, stop_sum, unit_scale, units_low, units_high, units_bounds, units_answer, units_chart_answer}

-- ---- the stop

-- on every complete sample, `stop_units` is the stop of 01's earliest way, and no other number is
abbrev pub StopLaw : Type 0
StopLaw = (plan x : List ℕ) → admitted plan ≡ true → Completion (stages plan) [] x → (y : ℕ) (v : Answer) →
    Stops (earliest_rule (stages plan)) x y v ↔ ((y ≡ stop_units (stages plan) x) × (v ≡ verdict (stages plan) x))

-- ---- the expected number of units

pub record UnitsEnclosed (p : List Stage) (w : Weights) : Type 0 where
  pub from_below : units_low p w * weight_sum w ^ total p ≤ stop_sum p (constant w) * unit_scale
  pub from_above : stop_sum p (constant w) * unit_scale ≤ units_high p w * weight_sum w ^ total p
  -- by at most one for each unit; 02 asks for two
  pub close : units_high p w - units_low p w ≤ total p
  pub close_as_written : units_high p w - units_low p w ≤ 2 * total p
  pub ordered : units_low p w ≤ units_high p w
  -- every lot needs a unit, and none more than S
  pub at_least_one : unit_scale ≤ units_low p w
  pub at_most_all : units_high p w ≤ total p * unit_scale

-- of every admitted plan, and all weights that do not add to 0
abbrev pub UnitsLaw : Type 0
UnitsLaw = (plan : List ℕ) (w : Weights) → admitted plan ≡ true → 0 < weight_sum w → UnitsEnclosed (stages plan) w

-- ---- units of one class alone

-- the weight k for the class x and none for the others
abbrev pub one_class : ℕ → ℕ → Weights
one_class zero k = weights_of k 0 0
one_class (suc zero) k = weights_of 0 k 0
one_class (suc (suc x)) k = weights_of 0 0 k

-- both bounds are the stop of S units of that class, without rounding
abbrev pub OneClassLaw : Type 0
OneClassLaw = (plan : List ℕ) (x k : ℕ) → admitted plan ≡ true → x ≤ 2 → 0 < k →
    let stop = stop_units (stages plan) (replicate (total (stages plan)) x) * unit_scale in
    units_bounds (stages plan) (one_class x k) ≡ record { low = stop; high = stop }

-- for good units that is the earliest acceptance, for bad ones the earliest rejection
abbrev pub OneVerdictLaw : Type 0
OneVerdictLaw = (plan : List ℕ) → admitted plan ≡ true →
    (verdict (stages plan) (replicate (total (stages plan)) 0) ≡ Accept) × (verdict (stages plan) (replicate (total (stages plan)) 2) ≡ Reject)

-- ---- demand 1

abbrev pub UnitsRefusalLaw : Type 0
UnitsRefusalLaw = (plan : List ℕ) (w : Weights) (n : ℕ) →
    RefusedByNumber (refusals plan w n) (bounds_reply (units_answer plan w n)) ×
    RefusedByNumber (refusals plan w n) (chart_reply (units_chart_answer plan w n))
