-- The uncurtailed way beside full, which answers alike at the ends of stages, and semi beside the uncurtailed way.
-- Assumes nothing.
use Prim.Native.Nat.{ℕ, ◌+◌, ◌-◌, ◌≤◌}
use mathlib.Core.Path.{◌≡◌, refl}
use mathlib.Core.Logic.{◌⊎◌, inl, inr}
use mathlib.Core.Bool.{Bool, true, false, cond}
use mathlib.Core.List.{List, [], ◌∷◌}
use native.Mathlib.Omega.{arith}
use native.Mathlib.Decide.{dec_lt}
use lib.Dec.{eqb}
use borrow.Author.Tests.{lt-ltb, le-ltb, eqb-true}
use Rattle.plan.specs.declared.counts.Counts.{Counts}
use Rattle.plan.specs.declared.stage.Answer.TheVariants.{GoOn, Reject}
use Rattle.plan.specs.declared.ways.StageWay.TheVariants.{Uncurtailed, Semi, Full}
use Rattle.plan.specs.declared.stage.Stage.{Stage}
use Rattle.plan.specs.Plan.{end_from}
use Rattle.plan.specs.Counts.{units, nongood, nonbad}
use Rattle.plan.specs.Stopping.{rejects, at_end, uncurtailed_at, semi_at, full_at, current, at_stage, staged}
use Rattle.plan.proofs.Ends.{current_here, current_later}

-- ---- at one stage

module _ (end : ℕ) (s : Stage) (c : Counts) where
  uncurtailed_here : uncurtailed_at end s c ≡ cond (eqb (units c) end) (full_at end s c) GoOn
  unfolding uncurtailed_at at_end full_at
  uncurtailed_here = go (eqb (units c) end) refl
    where
      go : (b : Bool) → eqb (units c) end ≡ b → cond b (at_end s c) GoOn ≡ cond b (full_at end s c) GoOn
      go false e = refl
      go true e =
          let u : units c ≡ end = eqb-true (units c) end e in
          let b : end - nonbad c ≡ c.bad = omega arith in
          let n : end - c.good ≡ nongood c = omega arith in
          rw (b, n)

  semi_here : (semi_at end s c ≡ Reject) ⊎ (semi_at end s c ≡ uncurtailed_at end s c)
  unfolding semi_at
  semi_here = go (rejects s c)
    where
      go : (b : Bool) → (cond b Reject (uncurtailed_at end s c) ≡ Reject) ⊎ (cond b Reject (uncurtailed_at end s c) ≡ uncurtailed_at end s c)
      go true = inl refl
      go false = inr refl

-- ---- at the current stage

either : (b : Bool) → GoOn ≡ cond b GoOn GoOn
either true = refl
either false = refl

module _ (c : Counts) where
  uncurtailed_from : (before : ℕ) (p : List Stage)
      → current uncurtailed_at before p c ≡ cond (eqb (units c) (end_from before p (units c))) (current full_at before p c) GoOn
  unfolding end_from current
  uncurtailed_from before [] = either (eqb (units c) before)
  uncurtailed_from before (s ∷ rest) = elim (dec_lt (before + s.size) (units c)) [
    | yes k ↦
        rw (current_later uncurtailed_at before s rest c k, current_later full_at before s rest c k, lt-ltb (before + s.size) (units c) k)
        (uncurtailed_from (before + s.size) rest)
    | no k ↦
        let l : units c ≤ before + s.size = omega arith in
        rw (current_here uncurtailed_at before s rest c l, current_here full_at before s rest c l, le-ltb (before + s.size) (units c) l)
        (uncurtailed_here (before + s.size) s c)
  ]

  semi_from : (before : ℕ) (p : List Stage) → (current semi_at before p c ≡ Reject) ⊎ (current semi_at before p c ≡ current uncurtailed_at before p c)
  unfolding current
  semi_from before [] = inr refl
  semi_from before (s ∷ rest) = elim (dec_lt (before + s.size) (units c)) [
    | yes k ↦
        rw (current_later semi_at before s rest c k, current_later uncurtailed_at before s rest c k) (semi_from (before + s.size) rest)
    | no k ↦
        let l : units c ≤ before + s.size = omega arith in
        rw (current_here semi_at before s rest c l, current_here uncurtailed_at before s rest c l) (semi_here (before + s.size) s c)
  ]

pub uncurtailed_is : (p : List Stage) (c : Counts) → staged Uncurtailed p c ≡ cond (eqb (units c) (end_from 0 p (units c))) (staged Full p c) GoOn
unfolding at_stage staged
uncurtailed_is p c = uncurtailed_from c 0 p

pub semi_is : (p : List Stage) (c : Counts) → (staged Semi p c ≡ Reject) ⊎ (staged Semi p c ≡ staged Uncurtailed p c)
unfolding at_stage staged
semi_is p c = semi_from c 0 p
