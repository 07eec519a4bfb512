-- Within a stage, a way that goes on after some classes did so before them. Assumes nothing.
use Prim.Native.Nat.{ℕ, ◌+◌, ◌-◌, ◌≤◌, ◌<◌}
use mathlib.Core.Path.{◌≡◌, refl, sym, ◌∙◌}
use mathlib.Core.Logic.{inl, inr}
use mathlib.Core.Bool.{Bool, true, false, cond}
use mathlib.Core.List.{List, [], ◌∷◌}
use native.Mathlib.Omega.{arith}
use native.Mathlib.Decide.{dec_lt}
use lib.ListN.{length}
use lib.Dec.{eqb}
use borrow.Author.Tests.{eqb-true, eq-eqb}
use Rattle.plan.specs.declared.counts.Counts.{Counts}
use Rattle.plan.specs.declared.stage.Answer.{Answer}
use Rattle.plan.specs.declared.stage.Answer.TheVariants.{GoOn, Reject}
use Rattle.plan.specs.declared.ways.StageWay.{StageWay}
use Rattle.plan.specs.declared.ways.StageWay.TheVariants.{Uncurtailed, Semi, Full}
use Rattle.plan.specs.declared.ways.Way.{Way}
use Rattle.plan.specs.declared.ways.Way.TheVariants.{Staged, Earliest}
use Rattle.plan.specs.declared.stage.Stage.{Stage}
use Rattle.plan.specs.Plan.{End}
use Rattle.plan.specs.Counts.{units, nonbad, counts_after}
use Rattle.plan.specs.Stopping.{rejects, accepts, decide, at_end, uncurtailed_at, full_at, at_stage, current, staged, answer, semi_at}
use Rattle.plan.specs.Promise.{SameStage, More}
use Rattle.plan.proofs.Answers.{reject_stops}
use Rattle.plan.proofs.Decide.{decided_on, when_on}
use Rattle.plan.proofs.StageTests.{more_rejected, fewer_accepted}
use Rattle.plan.proofs.Order.{end_same}
use Rattle.plan.proofs.Counting.{more}
use Rattle.plan.proofs.Ends.{each_end, current_here, current_later}
use Rattle.plan.proofs.CountLaws.{undecided_sooner}

-- ---- an answer that goes on, where the tests of another one imply its own

reject_sooner : (r r' : Bool) (a a' : Answer) → (r ≡ true → r' ≡ true) → (a' ≡ GoOn → a ≡ GoOn) → cond r' Reject a' ≡ GoOn → cond r Reject a ≡ GoOn
reject_sooner r true a a' f g e = absurd (reject_stops e)
reject_sooner true false a a' f g e = cc (f refl)
reject_sooner false false a a' f g e = g e

decide_sooner : (r a r' a' : Bool) → (r ≡ true → r' ≡ true) → (a ≡ true → a' ≡ true) → decide r' a' ≡ GoOn → decide r a ≡ GoOn
decide_sooner true a r' a' f g e = cc (f refl, (when_on r' a' e).0)
decide_sooner false true r' a' f g e = cc (g refl, (when_on r' a' e).1)
decide_sooner false false r' a' f g e = decided_on false false refl refl

-- ---- d has n units more than c

module _ (n : ℕ) (c d : Counts) (m : More n c d) where
  module _ (end : ℕ) (s : Stage) (u : units d ≤ end) where
    still_rejects : rejects s c ≡ true → rejects s d ≡ true
    still_rejects = more_rejected s c d m.bad_from m.nongood_from

    still_accepts : accepts s (end - nonbad c) (end - c.good) ≡ true → accepts s (end - nonbad d) (end - d.good) ≡ true
    still_accepts = fewer_accepted s _ _ _ _ (omega arith) (omega arith)

    full_sooner : full_at end s d ≡ GoOn → full_at end s c ≡ GoOn
    unfolding full_at
    full_sooner = decide_sooner _ _ _ _ still_rejects still_accepts

    -- c at the stage's end has as many units as d
    uncurtailed_sooner : uncurtailed_at end s d ≡ GoOn → uncurtailed_at end s c ≡ GoOn
    unfolding uncurtailed_at
    uncurtailed_sooner e = go (eqb (units c) end) refl
      where
        go : (b : Bool) → eqb (units c) end ≡ b → cond b (at_end s c) GoOn ≡ GoOn
        go true f =
            let k : units c ≡ end = eqb-true _ _ f in
            sym (end_same s c d (omega arith) (omega arith)) ∙ rw (eq-eqb (units d) end (omega arith)) at e
        go false f = refl

    sooner : (way : StageWay) → at_stage way end s d ≡ GoOn → at_stage way end s c ≡ GoOn
    unfolding semi_at at_stage
    sooner Uncurtailed = uncurtailed_sooner
    sooner Semi = reject_sooner (rejects s c) (rejects s d) _ _ still_rejects uncurtailed_sooner
    sooner Full = full_sooner

  staged_sooner : (way : StageWay) (before : ℕ) (p : List Stage) → ((e : ℕ) → End before p e → units c ≤ e → units d ≤ e)
      → current (at_stage way) before p d ≡ GoOn → current (at_stage way) before p c ≡ GoOn
  unfolding End current
  staged_sooner way before [] same e = refl
  staged_sooner way before (s ∷ rest) same e = go (dec_lt (before + s.size) (units c)) (staged_sooner way (before + s.size) rest (λ z k. same z (inr k)))
    where
      go : Dec (before + s.size < units c)
          → (current (at_stage way) (before + s.size) rest d ≡ GoOn → current (at_stage way) (before + s.size) rest c ≡ GoOn)
          → current (at_stage way) before (s ∷ rest) c ≡ GoOn
      go (yes l) later =
          current_later (at_stage way) before s rest c l ∙
          later (sym (current_later (at_stage way) before s rest d (omega arith)) ∙ e)
      go (no l) later =
          let u : units d ≤ before + s.size = same (before + s.size) (inl refl) (omega arith) in
          current_here (at_stage way) before s rest c (omega arith) ∙
          sooner (before + s.size) s u way (sym (current_here (at_stage way) before s rest d u) ∙ e)

pub within_stage : (p : List Stage) (way : Way) (c : Counts) (xs : List ℕ) → SameStage p (units c) (units c + length xs)
    → answer way p (counts_after c xs) ≡ GoOn → answer way p c ≡ GoOn
unfolding staged answer
within_stage p (Staged way) c xs same =
    let m = more c xs in
    staged_sooner (length xs) c (counts_after c xs) m way 0 p (λ e k l. omega (arith, same e k l))
within_stage p Earliest c xs same =
    let m = more c xs in
    undecided_sooner (length xs) c (counts_after c xs) m p
    (each_end (λ end. units c ≤ end → units (counts_after c xs) ≤ end) 0 p (λ e k l. omega (arith, same e k l)))
