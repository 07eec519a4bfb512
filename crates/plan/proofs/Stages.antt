-- How `stages` unfolds along a run of words: the first five, and the words after them. Assumes nothing.
use Prim.Native.Nat.{ℕ, ◌+◌, ◌*◌, ◌≤◌, ◌<◌}
use native.Mathlib.Omega.{arith}
use mathlib.Core.Path.{◌≡◌, refl, sym, ap, ◌∙◌}
use mathlib.Core.List.{List, [], ◌∷◌}
use lib.ListN.{length, take, drop, length-drop}
use Rattle.plan.specs.declared.stage.Stage.{Stage}
use Rattle.plan.specs.Plan.{stages, first, FirstAndRest, total}

pub stages_more : (w : List ℕ) → 5 ≤ length w → stages w ≡ first w ∷ stages (drop 5 w)
unfolding stages first
stages_more (n ∷ a1 ∷ r1 ∷ a2 ∷ r2 ∷ rest) h = refl
stages_more [] h = absurd (omega arith)
stages_more (a ∷ []) h = absurd (omega arith)
stages_more (a ∷ b ∷ []) h = absurd (omega arith)
stages_more (a ∷ b ∷ c ∷ []) h = absurd (omega arith)
stages_more (a ∷ b ∷ c ∷ d ∷ []) h = absurd (omega arith)

pub stages_none : (w : List ℕ) → length w < 5 → stages w ≡ []
unfolding stages
stages_none (n ∷ a1 ∷ r1 ∷ a2 ∷ r2 ∷ rest) h = absurd (omega arith)
stages_none [] h = refl
stages_none (a ∷ []) h = refl
stages_none (a ∷ b ∷ []) h = refl
stages_none (a ∷ b ∷ c ∷ []) h = refl
stages_none (a ∷ b ∷ c ∷ d ∷ []) h = refl

pub stages_one : (w : List ℕ) → length w ≡ 5 → stages w ≡ first w ∷ []
stages_one w h = stages_more w (omega arith) ∙ ap (λ (r : List Stage). first w ∷ r) (stages_none (drop 5 w) (omega (arith, length-drop 5 w)))

first_five : (w : List ℕ) → 5 ≤ length w → first (take 5 w) ≡ first w
unfolding first
first_five (n ∷ a1 ∷ r1 ∷ a2 ∷ r2 ∷ rest) h = refl
first_five [] h = absurd (omega arith)
first_five (a ∷ []) h = absurd (omega arith)
first_five (a ∷ b ∷ []) h = absurd (omega arith)
first_five (a ∷ b ∷ c ∷ []) h = absurd (omega arith)
first_five (a ∷ b ∷ c ∷ d ∷ []) h = absurd (omega arith)

-- the first five words, as a stage, and the others
pub split : (w five rest : List ℕ) (s : Stage) → s ≡ first five → (five ≡ take 5 w) × (rest ≡ drop 5 w) × (length rest + 5 ≡ length w) → FirstAndRest w s rest
split w five rest s is h = record {
  stages_are = stages_more w (omega arith) ∙ sym (λ i. (is ∙ ap first h.0 ∙ first_five w (omega arith)) i ∷ stages (h.1 i));
  fewer = omega arith;
}

module _ (w : List ℕ) where
  pub total_none : stages w ≡ [] → total (stages w) ≡ 0
  unfolding total
  total_none e = ap total e

  pub total_more : (s : Stage) (rest : List ℕ) → stages w ≡ s ∷ stages rest → total (stages w) ≡ s.size + total (stages rest)
  unfolding total
  total_more s rest e = ap total e

-- as many stages as there are fives of words
pub stage_count : (w : List ℕ) → (5 * length (stages w) ≤ length w) × (length w < 5 * length (stages w) + 5)
unfolding stages
stage_count (n ∷ a1 ∷ r1 ∷ a2 ∷ r2 ∷ rest) = let h = stage_count rest in omega arith
stage_count [] = omega arith
stage_count (a ∷ []) = omega arith
stage_count (a ∷ b ∷ []) = omega arith
stage_count (a ∷ b ∷ c ∷ []) = omega arith
stage_count (a ∷ b ∷ c ∷ d ∷ []) = omega arith
