-- Answers in order, Reject below GoOn below Accept, and what keeps the order: a better sample has no worse answer.
-- Assumes nothing.
use Prim.Native.Nat.{◌≤◌}
use mathlib.Core.Path.{◌≡◌, refl, ap₂}
use mathlib.Core.Logic.{◌⊎◌}
use mathlib.Core.Bool.{true, false}
use native.Mathlib.Omega.{arith}
use Rattle.plan.specs.declared.counts.Counts.{Counts}
use Rattle.plan.specs.declared.stage.Answer.{Answer}
use Rattle.plan.specs.declared.stage.Answer.TheVariants.{GoOn, Accept, Reject}
use Rattle.plan.specs.declared.stage.Stage.{Stage}
use Rattle.plan.specs.Counts.{nongood}
use Rattle.plan.specs.Stopping.{or_else, rejects, accepts, decide, at_end, only_reject, settled}
use Rattle.plan.specs.Promise.{rank}
use Rattle.plan.proofs.Answers.{accept_stops, reject_stops}
use Rattle.plan.proofs.Decide.{decided_reject, decided_accept, decided_on, when_reject, decide_mono, not_accept, not_reject}
use Rattle.plan.proofs.StageTests.{rejects_from, rejects_reaches, rejects_same, more_rejected, fewer_accepted}

pub top : (a : Answer) → 2 ≤ rank a → a ≡ Accept
top Accept h = refl
top GoOn h = absurd (omega arith)
top Reject h = absurd (omega arith)

pub bottom : (a : Answer) → rank a ≤ 0 → a ≡ Reject
bottom Accept h = absurd (omega arith)
bottom GoOn h = absurd (omega arith)
bottom Reject h = refl

at_most_two : (a : Answer) → rank a ≤ 2
at_most_two Accept = omega arith
at_most_two GoOn = omega arith
at_most_two Reject = omega arith

pub or_else_mono : (a b c d : Answer) → rank a ≤ rank b → rank c ≤ rank d → rank (or_else a c) ≤ rank (or_else b d)
unfolding or_else
or_else_mono Reject b c d h k = omega arith
or_else_mono GoOn Reject c d h k = absurd (omega arith)
or_else_mono GoOn GoOn c d h k = k
or_else_mono GoOn Accept c d h k = at_most_two c
or_else_mono Accept Reject c d h k = absurd (omega arith)
or_else_mono Accept GoOn c d h k = absurd (omega arith)
or_else_mono Accept Accept c d h k = omega arith

-- ---- the worst and the best case together

-- undecided exactly where the worst case is not accepted and the best case is not rejected
pub undecided : (worst best : Answer) → rank worst ≤ 1 → 1 ≤ rank best → settled worst best ≡ GoOn
unfolding only_reject settled
undecided Accept best h k = absurd (omega arith)
undecided Reject Reject h k = absurd (omega arith)
undecided Reject GoOn h k = refl
undecided Reject Accept h k = refl
undecided GoOn Reject h k = absurd (omega arith)
undecided GoOn GoOn h k = refl
undecided GoOn Accept h k = refl

pub undecided_ranks : (worst best : Answer) → settled worst best ≡ GoOn → (rank worst ≤ 1) × (1 ≤ rank best)
unfolding only_reject settled
undecided_ranks Accept best e = absurd (accept_stops e)
undecided_ranks Reject Reject e = absurd (reject_stops e)
undecided_ranks Reject GoOn e = omega arith
undecided_ranks Reject Accept e = omega arith
undecided_ranks GoOn Reject e = absurd (reject_stops e)
undecided_ranks GoOn GoOn e = omega arith
undecided_ranks GoOn Accept e = omega arith

pub accepts_worst : (worst best : Answer) → settled worst best ≡ Accept → worst ≡ Accept
unfolding only_reject settled
accepts_worst Accept best e = refl
accepts_worst Reject Reject e = cc
accepts_worst Reject GoOn e = cc
accepts_worst Reject Accept e = cc
accepts_worst GoOn Reject e = cc
accepts_worst GoOn GoOn e = cc
accepts_worst GoOn Accept e = cc

pub rejects_best : (worst best : Answer) → settled worst best ≡ Reject → best ≡ Reject
unfolding only_reject settled
rejects_best Accept best e = cc
rejects_best Reject Reject e = refl
rejects_best Reject GoOn e = cc
rejects_best Reject Accept e = cc
rejects_best GoOn Reject e = refl
rejects_best GoOn GoOn e = cc
rejects_best GoOn Accept e = cc

reject_mono : (best better : Answer) → rank best ≤ rank better → rank (only_reject best) ≤ rank (only_reject better)
unfolding only_reject
reject_mono Reject better h = omega arith
reject_mono GoOn Reject h = absurd (omega arith)
reject_mono GoOn GoOn h = omega arith
reject_mono GoOn Accept h = omega arith
reject_mono Accept Reject h = absurd (omega arith)
reject_mono Accept GoOn h = absurd (omega arith)
reject_mono Accept Accept h = omega arith

pub settled_mono : (worst best worst' best' : Answer) → rank worst ≤ rank worst' → rank best ≤ rank best' → rank (settled worst best) ≤ rank (settled worst' best')
unfolding settled
settled_mono worst best Accept best' h k = at_most_two (settled worst best)
settled_mono Accept best Reject best' h k = absurd (omega arith)
settled_mono Accept best GoOn best' h k = absurd (omega arith)
settled_mono Reject best Reject best' h k = reject_mono best best' k
settled_mono Reject best GoOn best' h k = reject_mono best best' k
settled_mono GoOn best Reject best' h k = absurd (omega arith)
settled_mono GoOn best GoOn best' h k = reject_mono best best' k

-- where both begin with one answer and are undecided, it went on
pub settled_past : (t a b : Answer) → settled (or_else t a) (or_else t b) ≡ GoOn → (t ≡ GoOn) × (settled a b ≡ GoOn)
unfolding or_else only_reject settled
settled_past GoOn a b e = (refl, e)
settled_past Accept a b e = (e, cc)
settled_past Reject a b e = (e, cc)

-- ---- at a stage's end

-- c has no more bad units and no more nongood ones
pub record Better (c d : Counts) : Type 0 where
  pub bad : c.bad ≤ d.bad
  pub nongood : nongood c ≤ nongood d

pub at_end_mono : (s : Stage) (c d : Counts) → Better c d → rank (at_end s d) ≤ rank (at_end s c)
unfolding at_end
at_end_mono s c d h = decide_mono _ _ _ _ (more_rejected s c d h.bad h.nongood) (fewer_accepted s _ _ _ _ h.bad h.nongood)

pub end_same : (s : Stage) (c d : Counts) → d.bad ≡ c.bad → nongood d ≡ nongood c → at_end s d ≡ at_end s c
unfolding at_end
end_same s c d e f = ap₂ decide (rejects_same s c d e f) (ap₂ (accepts s) e f)

module _ (s : Stage) (c : Counts) where
  pub not_accepted : accepts s c.bad (nongood c) ≡ false → rank (at_end s c) ≤ 1
  unfolding at_end
  not_accepted e = not_accept _ _ e

  pub not_rejected : rejects s c ≡ false → 1 ≤ rank (at_end s c)
  unfolding at_end
  not_rejected e = not_reject _ _ e

  pub rejected : (s.reject1 ≤ nongood c) ⊎ (s.reject2 ≤ c.bad) → at_end s c ≡ Reject
  unfolding at_end
  rejected h = decided_reject _ _ (rejects_from s c h)

  pub reached : at_end s c ≡ Reject → (s.reject1 ≤ nongood c) ⊎ (s.reject2 ≤ c.bad)
  unfolding at_end
  reached e = rejects_reaches s c (when_reject _ _ e)

  pub accepted : rejects s c ≡ false → accepts s c.bad (nongood c) ≡ true → at_end s c ≡ Accept
  unfolding at_end
  accepted e f = decided_accept _ _ e f

  pub neither : rejects s c ≡ false → accepts s c.bad (nongood c) ≡ false → at_end s c ≡ GoOn
  unfolding at_end
  neither e f = decided_on _ _ e f
