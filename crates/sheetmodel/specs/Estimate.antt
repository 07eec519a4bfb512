-- Estimates. Document 01, "Lists, events, estimates"; document 02, change 5; 002, 8.3.
use Rattle.std.specs.Prelude.{ℕ, ◌+◌, ◌-◌, ◌≤◌, ◌≡◌, ◌≢◌, cond, List, [], ◌∷◌, length, eqb}
use Rattle.plan.specs.declared.stage.Stage.{Stage}
use Rattle.plan.specs.Plan.{stages}
use Rattle.plan.specs.Counts.{counts}
use Rattle.std.specs.declared.result.Result.{Result}
use Rattle.std.specs.declared.result.Result.TheVariants.{Ok}
use Rattle.plan.specs.declared.refusal.Refusal.{Refusal}
use Rattle.plan.specs.Refusal.{Row}
use Rattle.sheetmodel.specs.declared.reply.Estimate.{Estimate}
use Rattle.sheetmodel.specs.Layout.{plan_words}
use Rattle.sheetmodel.specs.Contents.{history}
use Rattle.sheetmodel.specs.Rows.{lot_rows, estimate_own}
use Rattle.sheetmodel.specs.Calls.{Outcome, outcome, sheet_rows, standing, lot}
use Rattle.sheetmodel.specs.History.{without_last}

-- the units that an estimate counts: the only one, else all but the last
abbrev pub evidence : List ℕ → List ℕ
evidence h = cond (eqb (length h) 1) h (without_last h)

-- each class's count among these units, over their number
abbrev pub frequencies : List ℕ → Estimate
frequencies u = record { good = (counts u).good; marginal = (counts u).marginal; bad = (counts u).bad; over = length u }

-- a plan of one stage needs no more than the history
abbrev pub estimate_of : List Stage → List ℕ → Estimate
estimate_of p h = frequencies (evidence h)

unfoldable pub estimate_rows : ℕ → List ℕ → List Row
estimate_rows n w = sheet_rows w (lot_rows (standing n w) (estimate_own (plan_words w) (standing n w)))

-- estimate writes nothing
unfoldable pub estimate : ℕ → List ℕ → Outcome (Result Estimate Refusal)
estimate n w =
    outcome (estimate_rows n w) w (estimate_of (stages (plan_words w)) (history (lot n w))) w

-- ---- laws, proved in proofs/Estimates.antt

-- three fractions that add to 1
pub record Fractions (e : Estimate) : Type 0 where
  pub adds_up : e.good + e.marginal + e.bad ≡ e.over
  pub at_least_one : 1 ≤ e.over

pub record EstimateLaws : Type 0 where
  -- every estimate that is granted, on any words
  pub granted : (n : ℕ) (w : List ℕ) (e : Estimate) → (estimate n w).reply ≡ Ok e → Fractions e
  -- one unit: 1 over 1 for its class, and 0 for the other two; every class but 0 and 2 is marginal
  pub one_good : (p : List Stage) → estimate_of p (0 ∷ []) ≡ record { good = 1; marginal = 0; bad = 0; over = 1 }
  pub one_marginal : (p : List Stage) (x : ℕ) → x ≢ 0 → x ≢ 2 → estimate_of p (x ∷ []) ≡ record { good = 0; marginal = 1; bad = 0; over = 1 }
  pub one_bad : (p : List Stage) → estimate_of p (2 ∷ []) ≡ record { good = 0; marginal = 0; bad = 1; over = 1 }
  -- several: each class's count among the units before the last, over y - 1
  pub several : (p : List Stage) (h : List ℕ) → 2 ≤ length h → estimate_of p h ≡
      (let c = counts (without_last h) in record { good = c.good; marginal = c.marginal; bad = c.bad; over = length h - 1 })
