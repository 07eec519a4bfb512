-- `numbered_rules` at the first of some stages: the rules that it breaks by itself, and with the next one. Assumes nothing.
use Prim.Native.Nat.{ℕ, ◌+◌, ◌≤◌, ◌<◌}
use native.Mathlib.Omega.{arith}
use mathlib.Core.Path.{◌≡◌, refl, ap, ◌∙◌}
use mathlib.Core.Bool.{Bool, true, false, and-false, and-true}
use mathlib.Core.List.{List, [], ◌∷◌}
use lib.ListN.{length}
use lib.Dec.{ltb}
use borrow.Author.Tests.{ltb-true, ltb-false, le-leb, lt-leb}
use Rattle.plan.specs.declared.stage.Stage.{Stage}
use Rattle.plan.specs.Plan.{stages, total, numbered_rules}
use Rattle.plan.specs.Row.{stage_step, last_step}
use Rattle.plan.proofs.Rows.{none_left, rules_one, rules_more}
use Rattle.plan.proofs.Stages.{stages_more, stages_none}

-- no stage is left of a run of fewer than five words
pub next_last : (w : List ℕ) → none_left (stages w) ≡ ltb (length w) 5
next_last w = go (ltb (length w) 5) refl
  where
    go : (b : Bool) → ltb (length w) 5 ≡ b → none_left (stages w) ≡ b
    go true e = ap none_left (stages_none w (ltb-true (length w) 5 e))
    go false e = ap none_left (stages_more w (ltb-false (length w) 5 e))

module _ (before : ℕ) (s : Stage) where
  pub too_many : (rest : List Stage) → 1000 < before + s.size → numbered_rules before (s ∷ rest) ≡ false
  unfolding numbered_rules total
  too_many rest h = simp (lt-leb (before + total (s ∷ rest)) 1000 (omega arith), and-false)

  -- the last stage, which ends in time
  pub at_last : before + s.size ≤ 1000 → numbered_rules before (s ∷ []) ≡ last_step s (before + s.size)
  unfolding last_step
  at_last h = rules_one before s ∙ simp (le-leb (before + s.size) 1000 h, and-true)

  -- a stage with the stage t after it
  module _ (t : Stage) (rest : List Stage) where
    pub step_fails : stage_step s t (before + s.size) (none_left rest) ≡ false → numbered_rules before (s ∷ t ∷ rest) ≡ false
    unfolding stage_step
    step_fails e = rules_more before s t rest ∙ rw e

    pub step_holds : stage_step s t (before + s.size) (none_left rest) ≡ true → numbered_rules before (s ∷ t ∷ rest) ≡ numbered_rules (before + s.size) (t ∷ rest)
    unfolding stage_step
    step_holds e = rules_more before s t rest ∙ rw e
