-- Laws of the ways as rules on counts: within a stage, what comes before an undecided history is undecided; as many units, none of
-- them better, are answered no better; as many nongood or bad units as the last rejection number are rejected; after S units no
-- way stops.
-- Assumes nothing.
use Prim.Native.Nat.{ℕ, ◌+◌, ◌-◌, ◌≤◌, ◌<◌}
use mathlib.Core.Path.{◌≡◌, refl, ◌∙◌}
use mathlib.Core.Logic.{◌⊎◌, inl, inr, ⊎_elim}
use mathlib.Core.List.{List, [], ◌∷◌}
use native.Mathlib.Omega.{arith}
use lib.ListN.{length, take}
use lib.Seq.{take_all}
use Rattle.plan.specs.declared.counts.Counts.{Counts}
use Rattle.plan.specs.declared.stage.Answer.TheVariants.{GoOn, Reject}
use Rattle.plan.specs.declared.ways.Way.{Way}
use Rattle.plan.specs.declared.ways.Way.TheVariants.{Staged, Earliest}
use Rattle.plan.specs.declared.stage.Stage.{Stage}
use Rattle.plan.specs.Plan.{total, last_reject1, last_reject2}
use Rattle.plan.specs.Counts.{units, nongood, add_units, counts}
use Rattle.plan.specs.Stopping.{at_filled, completed, at_stage, staged, earliest, answer, only_reject, settled}
use Rattle.plan.specs.Promise.{SameStage, rank, Worse, More}
use Rattle.plan.proofs.Order.{at_end_mono, Better, undecided, undecided_ranks, settled_mono, rejected}
use Rattle.plan.proofs.Counting.{add_good, add_bad, added, more_taken, units_counts, units_taken}
use Rattle.plan.proofs.Ends.{RejectsFrom, Each, each_end, each_both, first_mono, first_same, first_on, first_rejects, current_past, end_past, end_due, end_case}
use Rattle.plan.proofs.Limits.{Limits}

-- ---- within a stage

-- d has n units more than c, and no end lies from c on and before d
module _ (n : ℕ) (c d : Counts) (m : More n c d) where
  abbrev Same : ℕ → Type 0
  Same end = units c ≤ end → units d ≤ end

  worse_sooner : (end : ℕ) (s : Stage) → Same end → rank (at_filled 2 c end s) ≤ rank (at_filled 2 d end s)
  worse_sooner end s same =
      end_case 2 c end s (λ a. rank a ≤ rank (at_filled 2 d end s))
      (λ l. rw (end_past 2 d end s (omega arith)) (omega arith))
      (λ l. rw (end_due 2 d end s (same l))
      (at_end_mono s (add_units 2 (end - units d) d) (add_units 2 (end - units c) c) (rw (add_bad, add_bad) (omega (arith, same l)))))

  better_sooner : (end : ℕ) (s : Stage) → Same end → rank (at_filled 0 d end s) ≤ rank (at_filled 0 c end s)
  better_sooner end s same =
      end_case 0 c end s (λ a. rank (at_filled 0 d end s) ≤ rank a)
      (λ l. rw (end_past 0 d end s (omega arith)) (omega arith))
      (λ l. rw (end_due 0 d end s (same l))
      (at_end_mono s (add_units 0 (end - units c) c) (add_units 0 (end - units d) d) (rw (add_good, add_good) (omega arith))))

  pub undecided_sooner : (p : List Stage) → Each (λ end s. Same end) 0 p → earliest p d ≡ GoOn → earliest p c ≡ GoOn
  unfolding earliest completed
  undecided_sooner p same e =
      let r = undecided_ranks (completed 2 0 p d) (completed 0 0 p d) e in
      undecided (completed 2 0 p c) (completed 0 0 p c)
      (omega (arith, first_mono (λ end s. Same end) (at_filled 2 c) (at_filled 2 d) worse_sooner 0 p same))
      (omega (arith, first_mono (λ end s. Same end) (at_filled 0 d) (at_filled 0 c) better_sooner 0 p same))

pub undecided_within : (p : List Stage) (h : List ℕ) (z : ℕ) → z ≤ length h → SameStage p z (length h)
    → earliest p (counts h) ≡ GoOn → earliest p (counts (take z h)) ≡ GoOn
undecided_within p h z l same =
    let n = units_taken h z l in
    undecided_sooner (length h - z) (counts (take z h)) (counts h) (rw (take_all (length h) h (omega arith)) at (more_taken h z (length h) l (omega arith))) p
    (each_end (λ end. units (counts (take z h)) ≤ end → units (counts h) ≤ end) 0 p (λ e m k. omega (arith, same e m (omega arith), units_counts h)))

-- ---- as many units, none of them better

module _ (c d : Counts) (w : Worse c d) where
  -- where every further unit is of one class, bad or good
  worse_filled : (class : ℕ) → (class ≡ 0) ⊎ (class ≡ 2) → (end : ℕ) (s : Stage) → Unit {0} → rank (at_filled class d end s) ≤ rank (at_filled class c end s)
  worse_filled class k end s t =
      end_case class c end s (λ a. rank (at_filled class d end s) ≤ rank a)
      (λ l. rw (end_past class d end s (omega (arith, w.units))) (omega arith))
      (λ l. rw (end_due class d end s (omega (arith, w.units)))
      (at_end_mono s (add_units class (end - units c) c) (add_units class (end - units d) d) (better k)))
    where
      better : (class ≡ 0) ⊎ (class ≡ 2) → Better (add_units class (end - units c) c) (add_units class (end - units d) d)
      better (inl e) = rw (e, add_good, add_good) (omega arith)
      better (inr e) = rw (e, add_bad, add_bad) (omega arith)

  worse_completed : (class : ℕ) → (class ≡ 0) ⊎ (class ≡ 2) → (p : List Stage) → rank (completed class 0 p d) ≤ rank (completed class 0 p c)
  unfolding completed
  worse_completed class k p = first_mono (λ end s. Unit {0}) (at_filled class d) (at_filled class c) (worse_filled class k) 0 p (each_end (λ end. Unit {0}) 0 p (λ e m. tt))

pub no_better : (p : List Stage) (c d : Counts) → Worse c d → rank (earliest p d) ≤ rank (earliest p c)
unfolding earliest
no_better p c d w =
    settled_mono (completed 2 0 p d) (completed 0 0 p d) (completed 2 0 p c) (completed 0 0 p c) (worse_completed c d w 2 (inr refl) p) (worse_completed c d w 0 (inl refl) p)

-- ---- as many units as the last rejection number

module _ (p : List Stage) (l : Limits p) (c : Counts) (n : units c ≤ total p) (r : (last_reject1 p ≤ nongood c) ⊎ (last_reject2 p ≤ c.bad)) where
  at_last : (class end : ℕ) (s : Stage) → s.reject1 ≤ last_reject1 p → s.reject2 ≤ last_reject2 p → units c ≤ end → at_filled class c end s ≡ Reject
  at_last class end s a b u =
      let m = added class (end - units c) c in
      end_due class c end s u ∙ rejected s (add_units class (end - units c) c) (⊎_elim (λ k. inl (omega arith)) (λ k. inr (omega arith)) r)

  completed_rejects : (class : ℕ) → completed class 0 p c ≡ Reject
  unfolding completed
  completed_rejects class =
      first_rejects (units c) (at_filled class c) 0 p
      (each_both (λ end s. s.reject1 ≤ last_reject1 p) (λ end s. s.reject2 ≤ last_reject2 p) (RejectsFrom (units c) (at_filled class c)) (λ end s a b. (end_past class c end s, at_last class end s a b)) 0 p l.at_most1 l.at_most2)
      (inr l.some_stage) (omega arith)

  pub rejects : earliest p c ≡ Reject
  unfolding earliest only_reject settled
  rejects = rw (completed_rejects 2, completed_rejects 0)

-- ---- after S units

ends_past : (u before : ℕ) (p : List Stage) → before + total p < u → Each (λ end s. end < u) before p
unfolding total
ends_past u before [] l = tt
ends_past u before (s ∷ rest) l = (omega arith, ends_past u (before + s.size) rest (omega arith))

completed_past : (class : ℕ) (p : List Stage) (c : Counts) → total p < units c → completed class 0 p c ≡ GoOn
unfolding completed
completed_past class p c l =
    first_same (λ end s. end < units c) (at_filled class c) (λ end s. GoOn) (end_past class c) 0 p (ends_past (units c) 0 p (omega arith)) ∙ first_on 0 p

pub past : (p : List Stage) (way : Way) (c : Counts) → total p < units c → answer way p c ≡ GoOn
unfolding staged earliest answer only_reject settled
past p (Staged way) c l = current_past (at_stage way) 0 p c (omega arith)
past p Earliest c l = rw (completed_past 2 p c l, completed_past 0 p c l)
