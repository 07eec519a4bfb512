-- The two tests of a stage, as facts. `rejects` and `accepts` are opened here and in the proofs of their code alone. What is proved of
-- acceptance rests on three laws: fewer units are accepted too; in an admitted plan never together with rejection; and not where all
-- units up to the stage's end are bad.
-- Assumes nothing.
use Prim.Native.Nat.{ℕ, ◌+◌, ◌≤◌, ◌<◌}
use native.Mathlib.Omega.{arith}
use mathlib.Core.Path.{◌≡◌, refl, sym, ap₂, ◌∙◌}
use mathlib.Core.Logic.{◌⊎◌, inl, inr}
use mathlib.Core.Bool.{Bool, true, false, not, ◌&&◌, ◌||◌, or-true, and-false}
use lib.Dec.{leb}
use borrow.Author.Tests.{leb-true, leb-false, le-leb, lt-leb, ne_eqb}
use Rattle.plan.specs.declared.counts.Counts.{Counts}
use Rattle.plan.specs.declared.stage.Stage.{Stage}
use Rattle.plan.specs.Plan.{not_permitted, marked}
use Rattle.plan.specs.Counts.{nongood}
use Rattle.plan.specs.Stopping.{rejects, accepts}
use Rattle.plan.proofs.Bools.{true_not_false, and_left, and_right}

-- ---- rejection: a rejection number is reached

module _ (s : Stage) (c : Counts) where
  pub rejects_from : (s.reject1 ≤ nongood c) ⊎ (s.reject2 ≤ c.bad) → rejects s c ≡ true
  unfolding rejects
  rejects_from (inl h) = simp (le-leb s.reject1 (nongood c) h, or-true)
  rejects_from (inr h) = simp (le-leb s.reject2 c.bad h)

  pub not_rejects_below : c.bad < s.reject2 → nongood c < s.reject1 → rejects s c ≡ false
  unfolding rejects
  not_rejects_below h k = simp (lt-leb s.reject2 c.bad h, lt-leb s.reject1 (nongood c) k)

  pub rejects_reaches : rejects s c ≡ true → (s.reject1 ≤ nongood c) ⊎ (s.reject2 ≤ c.bad)
  unfolding rejects
  rejects_reaches = go (leb s.reject2 c.bad) (leb s.reject1 (nongood c)) refl refl
    where
      go : (x y : Bool) → leb s.reject2 c.bad ≡ x → leb s.reject1 (nongood c) ≡ y → x || y ≡ true → (s.reject1 ≤ nongood c) ⊎ (s.reject2 ≤ c.bad)
      go true y e f g = inr (leb-true _ _ e)
      go false true e f g = inl (leb-true _ _ f)
      go false false e f g = absurd (true_not_false (sym g))

  pub not_rejects_is : rejects s c ≡ false → (c.bad < s.reject2) × (nongood c < s.reject1)
  unfolding rejects
  not_rejects_is = go (leb s.reject2 c.bad) (leb s.reject1 (nongood c)) refl refl
    where
      go : (x y : Bool) → leb s.reject2 c.bad ≡ x → leb s.reject1 (nongood c) ≡ y → x || y ≡ false → (c.bad < s.reject2) × (nongood c < s.reject1)
      go true y e f g = absurd (true_not_false g)
      go false true e f g = absurd (true_not_false g)
      go false false e f g = (leb-false _ _ e, leb-false _ _ f)

pub rejects_same : (s : Stage) (c d : Counts) → d.bad ≡ c.bad → nongood d ≡ nongood c → rejects s d ≡ rejects s c
unfolding rejects
rejects_same s c d e f = ap₂ (λ (b g : ℕ). leb s.reject2 b || leb s.reject1 g) e f

-- more units are rejected too
pub more_rejected : (s : Stage) (c d : Counts) → c.bad ≤ d.bad → nongood c ≤ nongood d → rejects s c ≡ true → rejects s d ≡ true
more_rejected s c d h k e = elim (rejects_reaches s c e) [ inl l ↦ rejects_from s d (inl (omega arith)) | inr l ↦ rejects_from s d (inr (omega arith)) ]

-- ---- acceptance

-- one acceptance number below the mark is enough
pub not_marked : (s : Stage) → s.accept1 < not_permitted → marked s ≡ false
unfolding marked
not_marked s h = simp (ne_eqb s.accept1 not_permitted (λ e. omega arith))

module _ (s : Stage) (b g : ℕ) where
  -- by the mark and the acceptance numbers
  pub accepts_is : accepts s b g ≡ (not (marked s) && leb b s.accept2 && leb g s.accept1)
  unfolding accepts
  accepts_is = refl

  pub marked_not_accepted : marked s ≡ true → accepts s b g ≡ false
  unfolding accepts
  marked_not_accepted e = rw e

  -- by the nongood units, where nothing else stands against it
  pub accepts_nongood : marked s ≡ false → b ≤ s.accept2 → leb g s.accept1 ≡ accepts s b g
  unfolding accepts
  accepts_nongood e h = rw (e, le-leb b s.accept2 h)

  pub accepts_within : marked s ≡ false → b ≤ s.accept2 → g ≤ s.accept1 → accepts s b g ≡ true
  accepts_within e h k = sym (accepts_nongood e h) ∙ le-leb g s.accept1 k

  pub accepted_within : accepts s b g ≡ true → (marked s ≡ false) × (b ≤ s.accept2) × (g ≤ s.accept1)
  unfolding accepts
  accepted_within = go (marked s) refl
    where
      go : (m : Bool) → marked s ≡ m → (not m && leb b s.accept2 && leb g s.accept1) ≡ true → (marked s ≡ false) × (b ≤ s.accept2) × (g ≤ s.accept1)
      go true m e = absurd (true_not_false (sym e))
      go false m e = (m, leb-true _ _ (and_left (leb b s.accept2) _ e), leb-true _ _ (and_right (leb b s.accept2) _ e))

pub fewer_accepted : (s : Stage) (b g b' g' : ℕ) → b' ≤ b → g' ≤ g → accepts s b g ≡ true → accepts s b' g' ≡ true
fewer_accepted s b g b' g' h k e = let w = accepted_within s b g e in accepts_within s b' g' w.0 (omega (arith, w.1)) (omega (arith, w.2))

pub accepted_not_rejected : (s : Stage) → s.accept1 < s.reject1 → s.accept2 < s.reject2 → (c : Counts)
    → accepts s c.bad (nongood c) ≡ true → rejects s c ≡ false
accepted_not_rejected s h k c e =
    let w = accepted_within s c.bad (nongood c) e in
    not_rejects_below s c (omega (arith, w.1)) (omega (arith, w.2))

pub all_bad_not_accepted : (s : Stage) (end : ℕ) → s.accept2 < end → accepts s end end ≡ false
unfolding accepts
all_bad_not_accepted s end h = simp (lt-leb end s.accept2 h, and-false)

-- at the last stage, where a + 1 = r: what is not rejected is accepted
pub last_accepts : (s : Stage) → marked s ≡ false → s.accept1 + 1 ≡ s.reject1 → s.accept2 + 1 ≡ s.reject2 → (c : Counts)
    → rejects s c ≡ false → accepts s c.bad (nongood c) ≡ true
last_accepts s m e f c g =
    let t = not_rejects_is s c g in
    accepts_within s c.bad (nongood c) m (omega (arith, t.0)) (omega (arith, t.1))
