-- `rules` at the first stage: a marked one, and one with acceptance numbers; and what is the same of a plan and of its stages with
-- acceptance numbers. Assumes nothing.
use Prim.Native.Nat.{ℕ, ◌+◌, ◌≤◌, ◌<◌}
use native.Mathlib.Nat.{add_assoc, add-zero}
use native.Mathlib.Omega.{arith}
use mathlib.Core.Path.{◌≡◌, refl, ◌∙◌}
use mathlib.Core.Bool.{Bool, true, false, ◌&&◌, and-false, and-true}
use mathlib.Core.List.{List, [], ◌∷◌}
use lib.ListN.{length}
use lib.Dec.{leb}
use borrow.Author.Tests.{leb-true, le-leb, lt-leb}
use Rattle.plan.specs.declared.stage.Stage.{Stage}
use Rattle.plan.specs.Plan.{total, marked, ahead, numbered, each, never_falls, last, row_rules, numbered_rules, marked_rules, rules}
use Rattle.plan.specs.Row.{marked_step}
use Rattle.plan.proofs.Bools.{and_left, and_right, first_false, mid_false, both_true}
use Rattle.plan.proofs.Rows.{r1, r2}

-- ---- a stage with acceptance numbers: the rules on such stages

absorbed : (x y z : Bool) → (z ≡ true → x ≡ true) → (z ≡ true → y ≡ true) → (x && y && z) ≡ z
absorbed x y true f g = rw (f refl, g refl)
absorbed x y false f g = and-false (x && y)

module _ (s : Stage) (rest : List Stage) (m : marked s ≡ false) where
  pub none_ahead : ahead (s ∷ rest) ≡ []
  unfolding ahead
  none_ahead = rw m

  pub all_numbered : numbered (s ∷ rest) ≡ s ∷ rest
  unfolding numbered
  all_numbered = rw m

  module _ (before : ℕ) where
    rises1 : numbered_rules before (s ∷ rest) ≡ true → never_falls r1 (s ∷ rest) ≡ true
    unfolding numbered_rules row_rules
    rises1 e = search (and_left, and_right) depth 16

    rises2 : numbered_rules before (s ∷ rest) ≡ true → never_falls r2 (s ∷ rest) ≡ true
    unfolding numbered_rules row_rules
    rises2 e = search (and_left, and_right) depth 16

    pub rules_numbered : rules before (s ∷ rest) ≡ numbered_rules before (s ∷ rest)
    unfolding rules each total
    rules_numbered = rw (none_ahead, all_numbered, add-zero before, le-leb 1 (length (s ∷ rest)) (omega arith), and-true)
        (absorbed (never_falls r1 (s ∷ rest)) (never_falls r2 (s ∷ rest)) (numbered_rules before (s ∷ rest)) rises1 rises2)

-- ---- a marked stage

-- the rules at the first stage, and those after it
sorted : (n a b c d e N A B E F : Bool) → (b ≡ true → c ≡ true → a ≡ true)
    → (((n && a && b && c) && N) && (d && A) && (e && B) && E && F) ≡ ((n && (b && c && d && e)) && (N && A && B && E && F))
sorted true a true true true true N A B E F f = rw (f refl refl) refl
sorted true a true true true false N A B E F f = simp and-false
sorted true a true true false e N A B E F f = simp and-false
sorted true a true false d e N A B E F f = simp and-false
sorted true a false c d e N A B E F f = simp and-false
sorted false a b c d e N A B E F f = refl

module _ (s : Stage) (m : marked s ≡ true) where
  pub ahead_more : (rest : List Stage) → ahead (s ∷ rest) ≡ s ∷ ahead rest
  unfolding ahead
  ahead_more rest = rw m

  pub numbered_more : (rest : List Stage) → numbered (s ∷ rest) ≡ numbered rest
  unfolding numbered
  numbered_more rest = rw m

  pub rules_last : (before : ℕ) → rules before (s ∷ []) ≡ false
  unfolding rules numbered
  rules_last before = rw m (simp and-false)

  rules_marked : (before : ℕ) (t : Stage) (rest : List Stage) → rules before (s ∷ t ∷ rest) ≡
      ((leb 1 s.size && marked_step s.reject1 s.reject2 t.reject1 t.reject2) && rules (before + s.size) (t ∷ rest))
  unfolding rules marked_rules marked_step each total never_falls
  rules_marked before t rest = rw (ahead_more (t ∷ rest), numbered_more (t ∷ rest), ← add_assoc before s.size (total (ahead (t ∷ rest))))
      (sorted (leb 1 s.size) (leb 1 s.reject1) (leb 1 s.reject2) (leb s.reject2 s.reject1) (leb s.reject1 t.reject1) (leb s.reject2 t.reject2)
      (each marked_rules (ahead (t ∷ rest))) (never_falls r1 (t ∷ rest)) (never_falls r2 (t ∷ rest)) (leb 1 (length (numbered (t ∷ rest))))
      (numbered_rules (before + s.size + total (ahead (t ∷ rest))) (numbered (t ∷ rest)))
      (λ e f. le-leb 1 s.reject1 (omega (arith, leb-true 1 s.reject2 e, leb-true s.reject2 s.reject1 f))))

-- ---- a plan, and its stages with acceptance numbers

pub parts : (p : List Stage) → total (ahead p) + total (numbered p) ≡ total p
unfolding total ahead numbered
parts [] = refl
parts (s ∷ rest) = go (marked s) refl (parts rest)
  where
    go : (b : Bool) → marked s ≡ b → total (ahead rest) + total (numbered rest) ≡ total rest → total (ahead (s ∷ rest)) + total (numbered (s ∷ rest)) ≡ total (s ∷ rest)
    go true m e = rw m (omega arith)
    go false m e = rw m (omega arith)

pub last_numbered : (row : Stage → ℕ) (p : List Stage) → 1 ≤ length (numbered p) → last row (numbered p) ≡ last row p
unfolding last numbered
last_numbered row [] n = refl
last_numbered row (s ∷ []) n = go (marked s) refl
  where
    go : (b : Bool) → marked s ≡ b → last row (numbered (s ∷ [])) ≡ row s
    go true m = absurd (omega (arith, rw m at n))
    go false m = rw m
last_numbered row (s ∷ t ∷ rest) n = go (marked s) refl (last_numbered row (t ∷ rest))
  where
    go : (b : Bool) → marked s ≡ b → (1 ≤ length (numbered (t ∷ rest)) → last row (numbered (t ∷ rest)) ≡ last row (t ∷ rest))
        → last row (numbered (s ∷ t ∷ rest)) ≡ last row (t ∷ rest)
    go true m later = rw (numbered_more s m (t ∷ rest)) (later (rw (numbered_more s m (t ∷ rest)) at n))
    go false m later = rw (all_numbered s (t ∷ rest) m) refl

pub one_numbered : (s : Stage) → 1 ≤ length (numbered (s ∷ [])) → marked s ≡ false
unfolding numbered
one_numbered s n = go (marked s) refl
  where
    go : (b : Bool) → marked s ≡ b → marked s ≡ false
    go true m = absurd (omega (arith, rw m at n))
    go false m = m

-- ---- the rules at the first of some stages

pub too_many : (before : ℕ) (s : Stage) (rest : List Stage) → 1000 < before + s.size → rules before (s ∷ rest) ≡ false
unfolding rules numbered_rules total
too_many before s rest h =
    let p : List Stage = s ∷ rest in
    simp (lt-leb (before + total (ahead p) + total (numbered p)) 1000 (omega (arith, parts p)), and-false)

-- a marked stage with the stage t after it
module _ (before : ℕ) (s t : Stage) (rest : List Stage) (m : marked s ≡ true) where
  abbrev step : Bool
  step = marked_step s.reject1 s.reject2 t.reject1 t.reject2

  pub no_units : s.size < 1 → rules before (s ∷ t ∷ rest) ≡ false
  no_units h = rules_marked s m before t rest ∙ first_false (leb 1 s.size) step _ (lt-leb 1 s.size h)

  pub step_fails : step ≡ false → rules before (s ∷ t ∷ rest) ≡ false
  step_fails e = rules_marked s m before t rest ∙ mid_false (leb 1 s.size) step _ e

  pub step_holds : 1 ≤ s.size → step ≡ true → rules before (s ∷ t ∷ rest) ≡ rules (before + s.size) (t ∷ rest)
  step_holds h e = rules_marked s m before t rest ∙ both_true (leb 1 s.size) step _ (le-leb 1 s.size h) e
