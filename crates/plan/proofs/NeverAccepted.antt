-- At a marked stage uncurtailed, semi and full never accept.
-- Assumes nothing.
use Prim.Native.Nat.{ℕ, ◌+◌, ◌-◌, ◌≤◌, ◌<◌}
use mathlib.Core.Path.{◌≡◌, refl, sym, ◌∙◌}
use mathlib.Core.Logic.{◌≢◌}
use mathlib.Core.Bool.{Bool, true, false, cond}
use mathlib.Core.List.{List, [], ◌∷◌}
use native.Mathlib.Omega.{arith}
use native.Mathlib.Decide.{dec_lt}
use lib.ListN.{length}
use lib.Dec.{eqb}
use borrow.Author.Tests.{le-leb, lt-leb}
use Rattle.plan.specs.declared.counts.Counts.{Counts}
use Rattle.plan.specs.declared.stage.Answer.TheVariants.{GoOn, Accept, Reject}
use Rattle.plan.specs.declared.ways.StageWay.{StageWay}
use Rattle.plan.specs.declared.ways.StageWay.TheVariants.{Uncurtailed, Semi, Full}
use Rattle.plan.specs.declared.stage.Stage.{Stage}
use Rattle.plan.specs.Plan.{total, marked, ahead}
use Rattle.plan.specs.Counts.{units, nongood, nonbad}
use Rattle.plan.specs.Stopping.{rejects, accepts, decide, at_end, uncurtailed_at, semi_at, full_at, at_stage, current, staged}
use Rattle.plan.specs.Promise.{NeverAccepted}
use Rattle.plan.proofs.Bools.{true_not_false}
use Rattle.plan.proofs.Answers.{accept_stops, accept_not_reject}
use Rattle.plan.proofs.Decide.{when_accept}
use Rattle.plan.proofs.StageTests.{marked_not_accepted}

module _ (s : Stage) (m : marked s ≡ true) where
  -- the two tests of a stage
  by_tests : (r : Bool) (b g : ℕ) → decide r (accepts s b g) ≢ Accept
  by_tests r b g e = true_not_false (sym (when_accept r (accepts s b g) e).1 ∙ marked_not_accepted s b g m)

  uncurtailed_there : (end : ℕ) (c : Counts) → uncurtailed_at end s c ≢ Accept
  unfolding uncurtailed_at at_end
  uncurtailed_there end c = go (eqb (units c) end)
    where
      go : (b : Bool) → cond b (decide (rejects s c) (accepts s c.bad (nongood c))) GoOn ≢ Accept
      go true e = by_tests (rejects s c) c.bad (nongood c) e
      go false e = accept_stops (sym e)

  there : (way : StageWay) (end : ℕ) (c : Counts) → at_stage way end s c ≢ Accept
  unfolding at_stage semi_at full_at
  there Uncurtailed end c = uncurtailed_there end c
  there Semi end c = go (rejects s c)
    where
      go : (b : Bool) → cond b Reject (uncurtailed_at end s c) ≢ Accept
      go true e = accept_not_reject (sym e)
      go false e = uncurtailed_there end c e
  there Full end c = by_tests (rejects s c) (end - nonbad c) (end - c.good)

some_stage : (p : List Stage) → 1 ≤ total p → 1 ≤ length p
unfolding total
some_stage [] n = absurd (omega arith)
some_stage (s ∷ rest) n = omega arith

module _ (way : StageWay) (c : Counts) where
  never_from : (before : ℕ) (p : List Stage) → 1 ≤ length (ahead p) → units c ≤ before + total (ahead p) → current (at_stage way) before p c ≢ Accept
  unfolding current total ahead
  never_from before [] n u = absurd (omega arith)
  never_from before (s ∷ rest) n u = go (marked s) refl (dec_lt (before + s.size) (units c)) (never_from (before + s.size) rest)
    where
      go : (b : Bool) → marked s ≡ b → Dec (before + s.size < units c)
          → (1 ≤ length (ahead rest) → units c ≤ before + s.size + total (ahead rest) → current (at_stage way) (before + s.size) rest c ≢ Accept)
          → current (at_stage way) before (s ∷ rest) c ≢ Accept
      go true m (no l) later = rw (le-leb (units c) (before + s.size) (omega arith)) (there s m way (before + s.size) c)
      go true m (yes l) later =
          let w : units c ≤ before + (s.size + total (ahead rest)) = rw m at u in
          rw (lt-leb (units c) (before + s.size) l) (later (some_stage (ahead rest) (omega arith)) (omega arith))
      go false m l later = absurd (omega (arith, rw m at n))

pub never_accepted : NeverAccepted
unfolding staged
never_accepted way p c n u = never_from way c 0 p n (omega arith)
