-- The ways that look at the current stage: where one stops, all completions have its verdict. Semi and full reject at one unit.
-- Assumes nothing.
use Prim.Native.Nat.{ℕ, ◌+◌, ◌-◌, ◌≤◌, ◌<◌}
use mathlib.Core.Path.{◌≡◌, refl, sym, ap, ap₂, ◌∙◌}
use mathlib.Core.Logic.{◌≢◌}
use mathlib.Core.Bool.{Bool, true, false, cond}
use mathlib.Core.List.{List, [], ◌∷◌}
use native.Mathlib.Omega.{arith}
use native.Mathlib.Decide.{dec_lt}
use lib.ListN.{length, take}
use lib.Seq.{length-take-le, take-take}
use lib.Dec.{eqb}
use borrow.Author.Tests.{eqb-true, eq-eqb}
use Rattle.plan.specs.declared.counts.Counts.{Counts}
use Rattle.plan.specs.declared.stage.Answer.{Answer}
use Rattle.plan.specs.declared.stage.Answer.TheVariants.{GoOn, Accept, Reject}
use Rattle.plan.specs.declared.ways.StageWay.{StageWay}
use Rattle.plan.specs.declared.ways.StageWay.TheVariants.{Uncurtailed, Semi, Full}
use Rattle.plan.specs.declared.stage.Stage.{Stage}
use Rattle.plan.specs.Plan.{total}
use Rattle.plan.specs.Counts.{units, nongood, nonbad, counts}
use Rattle.plan.specs.Stopping.{or_else, rejects, accepts, decide, at_end, uncurtailed_at, semi_at, full_at, at_stage, current, staged, first_answer}
use Rattle.plan.specs.Sample.{verdict, AllHave, Stops}
use Rattle.plan.specs.Promise.{staged_rule, More}
use Rattle.plan.proofs.Answers.{reject_stops}
use Rattle.plan.proofs.Decide.{decided_reject, decided_accept, decided_on}
use Rattle.plan.proofs.StageTests.{rejects_reaches, more_rejected, fewer_accepted}
use Rattle.plan.proofs.Order.{end_same, rejected, accepted}
use Rattle.plan.proofs.Counting.{more_taken, units_taken}
use Rattle.plan.proofs.Ends.{Each, or_else_first, current_here, current_later, current_past}
use Rattle.plan.proofs.Limits.{Sound, Limits}

-- ---- at one stage

module _ (s : Stage) where
  -- rejection stays: more units are rejected at the end
  rejects_on : (n : ℕ) (c d : Counts) → More n c d → rejects s c ≡ true → at_end s d ≡ Reject
  rejects_on n c d m e = rejected s d (rejects_reaches s d (more_rejected s c d m.bad_from m.nongood_from e))

  -- acceptance with the units left bad stays
  accepts_on : (end : ℕ) → Sound end s → (c d : Counts) → units c ≤ end → More (end - units c) c d → accepts s (end - nonbad c) (end - c.good) ≡ true → at_end s d ≡ Accept
  accepts_on end sound c d u m e =
      let f = fewer_accepted s (end - nonbad c) (end - c.good) d.bad (nongood d) (omega arith) (omega arith) e in
      accepted s d (sound.not_both d f) f

  -- what a way says, with the units left it stays said at the stage's end
  module _ (end : ℕ) (sound : Sound end s) (c d : Counts) (u : units c ≤ end) (m : More (end - units c) c d) (v : Answer) (n : v ≢ GoOn) where
    uncurtailed_stays : uncurtailed_at end s c ≡ v → at_end s d ≡ v
    unfolding uncurtailed_at
    uncurtailed_stays = go (eqb (units c) end) refl
      where
        go : (b : Bool) → eqb (units c) end ≡ b → cond b (at_end s c) GoOn ≡ v → at_end s d ≡ v
        go true e f = let h : units c ≡ end = eqb-true _ _ e in end_same s c d (omega arith) (omega arith) ∙ f
        go false e f = absurd (n (sym f))

    semi_stays : semi_at end s c ≡ v → at_end s d ≡ v
    unfolding semi_at uncurtailed_at
    semi_stays = go (rejects s c) refl
      where
        go : (b : Bool) → rejects s c ≡ b → cond b Reject (uncurtailed_at end s c) ≡ v → at_end s d ≡ v
        go true e f = rejects_on _ c d m e ∙ f
        go false e f = uncurtailed_stays f

    full_stays : full_at end s c ≡ v → at_end s d ≡ v
    unfolding full_at
    full_stays = go (rejects s c) (accepts s (end - nonbad c) (end - c.good)) refl refl
      where
        go : (r a : Bool) → rejects s c ≡ r → accepts s (end - nonbad c) (end - c.good) ≡ a → decide r a ≡ v → at_end s d ≡ v
        go true a e g f = rejects_on _ c d m e ∙ sym (decided_reject true a refl) ∙ f
        go false true e g f = accepts_on end sound c d u m g ∙ sym (decided_accept false true refl refl) ∙ f
        go false false e g f = absurd (n (sym f ∙ decided_on false false refl refl))

    stays : (way : StageWay) → at_stage way end s c ≡ v → at_end s d ≡ v
    unfolding at_stage
    stays Uncurtailed = uncurtailed_stays
    stays Semi = semi_stays
    stays Full = full_stays

  -- a way that goes on at the stage's end does so as uncurtailed
  module _ (end : ℕ) (c : Counts) (u : units c ≡ end) where
    semi_goes_on : semi_at end s c ≡ GoOn → uncurtailed_at end s c ≡ GoOn
    unfolding semi_at uncurtailed_at
    semi_goes_on = go (rejects s c)
      where
        go : (b : Bool) → cond b Reject (uncurtailed_at end s c) ≡ GoOn → uncurtailed_at end s c ≡ GoOn
        go true e = absurd (reject_stops e)
        go false e = e

    full_is : full_at end s c ≡ at_end s c
    unfolding full_at at_end
    full_is = ap (decide (rejects s c)) (ap₂ (accepts s) b n)
      where
        b : end - nonbad c ≡ c.bad
        b = omega arith

        n : end - c.good ≡ nongood c
        n = omega arith

    uncurtailed_is : uncurtailed_at end s c ≡ at_end s c
    unfolding uncurtailed_at
    uncurtailed_is = rw (eq-eqb (units c) end u)

    goes_on : (way : StageWay) → at_stage way end s c ≡ GoOn → at_end s c ≡ GoOn
    unfolding at_stage
    goes_on Uncurtailed e = sym uncurtailed_is ∙ e
    goes_on Semi e = sym uncurtailed_is ∙ semi_goes_on e
    goes_on Full e = sym full_is ∙ e

-- ---- along the stages

module _ (way : StageWay) (x X : List ℕ) (y : ℕ) (w : y ≤ length x) (agree : (z : ℕ) → z ≤ y → take z X ≡ take z x) (v : Answer) (n : v ≢ GoOn) where
  -- where the way stops after y units of x, the sample X, which agrees with x so far, has that verdict
  sound_from : (before : ℕ) (p : List Stage) → Each Sound before p → before + total p ≤ length X
      → ((z : ℕ) → before < z → z < y → current (at_stage way) before p (counts (take z x)) ≡ GoOn)
      → current (at_stage way) before p (counts (take y x)) ≡ v
      → first_answer (λ end s. at_end s (counts (take end X))) before p ≡ v
  unfolding total or_else current at_stage first_answer
  sound_from before [] k f o e = e
  sound_from before (s ∷ rest) k f o e = go (dec_lt (before + s.size) y) (sound_from (before + s.size) rest k.1 (omega arith))
    where
      go : Dec (before + s.size < y)
          → (((z : ℕ) → before + s.size < z → z < y → current (at_stage way) (before + s.size) rest (counts (take z x)) ≡ GoOn)
          → current (at_stage way) (before + s.size) rest (counts (take y x)) ≡ v
          → first_answer (λ end s. at_end s (counts (take end X))) (before + s.size) rest ≡ v)
          → or_else (at_end s (counts (take (before + s.size) X))) (first_answer (λ end s. at_end s (counts (take end X))) (before + s.size) rest) ≡ v
      go (no m) later =
          let u = units_taken x y w in
          let more : More (before + s.size - units (counts (take y x))) (counts (take y x)) (counts (take (before + s.size) X))
          = rw u (rw (agree y (omega arith)) at (more_taken X y (before + s.size) (omega arith) (omega arith))) in
          let here = sym (current_here (at_stage way) before s rest (counts (take y x)) (omega arith)) ∙ e in
          ap (λ (a : Answer). or_else a (first_answer (λ end s. at_end s (counts (take end X))) (before + s.size) rest))
          (stays s (before + s.size) k.0 (counts (take y x)) (counts (take (before + s.size) X)) (omega arith) more v n way here)
          ∙ or_else_first v _ n
      go (yes m) later =
          let u = units_taken x (before + s.size) (omega arith) in
          let c : Counts = counts (take (before + s.size) x) in
          let on : at_end s c ≡ GoOn = goes_on s (before + s.size) c u way
          (sym (current_here (at_stage way) before s rest c (omega arith)) ∙ o (before + s.size) (omega (arith, k.0.size)) m) in
          rw (agree (before + s.size) (omega arith), on)
          (later (λ z a b. sym (current_later (at_stage way) before s rest (counts (take z x)) (omega (arith, units_taken x z (omega arith)))) ∙ o z (omega arith) b)
          (sym (current_later (at_stage way) before s rest (counts (take y x)) (omega (arith, units_taken x y w))) ∙ e))

module _ (p : List Stage) (l : Limits p) (way : StageWay) (x : List ℕ) (y : ℕ) (v : Answer) (s : Stops (staged_rule way p) x y v) where
  pub sound : AllHave p (take y x) v
  unfolding staged verdict
  sound X q =
      let same : take y X ≡ take y x = rw (length-take-le y x s.within) at q.begins in
      sound_from way x X y s.within
      (λ z k. sym (take-take z y X k) ∙ ap (take z) same ∙ take-take z y x k) v s.decides
      0 p l.sound (omega (arith, q.complete)) (λ z a b. s.first z b) s.there

  -- no way stops after S units
  pub within_plan : y ≤ total p
  unfolding staged
  within_plan = go (dec_lt (total p) y)
    where
      go : Dec (total p < y) → y ≤ total p
      go (no m) = omega arith
      go (yes m) = absurd (s.decides (sym s.there ∙ current_past (at_stage way) 0 p (counts (take y x)) (omega (arith, units_taken x y s.within))))
