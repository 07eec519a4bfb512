-- The first stage end from some units on, by the words of a plan. Assumes nothing.
use Prim.Native.Nat.{ℕ, ◌+◌, ◌<◌}
use native.Mathlib.Omega.{arith}
use mathlib.Core.Path.{◌≡◌, refl}
use mathlib.Core.Bool.{cond}
use mathlib.Core.List.{List, [], ◌∷◌, ◌++◌}
use lib.ListN.{length, get_or}
use lib.Dec.{ltb}
use Rattle.plan.specs.Plan.{stages, end_from}
use Rattle.plan.specs.Promise.{StageWords}

next : (i y : ℕ) (x later : List ℕ) → length x ≡ 5
    → end_from i (stages (x ++ later)) y ≡ cond (ltb (i + get_or x 0 0) y) (end_from (i + get_or x 0 0)
    (stages later) y) (i + get_or x 0 0)
unfolding stages end_from
next i y (n ∷ a1 ∷ r1 ∷ a2 ∷ r2 ∷ []) later h = refl
next i y [] later h = absurd (omega arith)
next i y (n ∷ []) later h = absurd (omega arith)
next i y (n ∷ a1 ∷ []) later h = absurd (omega arith)
next i y (n ∷ a1 ∷ r1 ∷ []) later h = absurd (omega arith)
next i y (n ∷ a1 ∷ r1 ∷ a2 ∷ []) later h = absurd (omega arith)
next i y (n ∷ a1 ∷ r1 ∷ a2 ∷ r2 ∷ b ∷ more) later h = absurd (omega arith)

none_left : (i y : ℕ) (ws : List ℕ) → length ws < 5 → end_from i (stages ws) y ≡ i
unfolding stages end_from
none_left i y [] h = refl
none_left i y (n ∷ []) h = refl
none_left i y (n ∷ a1 ∷ []) h = refl
none_left i y (n ∷ a1 ∷ r1 ∷ []) h = refl
none_left i y (n ∷ a1 ∷ r1 ∷ a2 ∷ []) h = refl
none_left i y (n ∷ a1 ∷ r1 ∷ a2 ∷ r2 ∷ more) h = absurd (omega arith)

pub stage_words : StageWords
stage_words = record { next = next; none_left = none_left }
