-- The earliest stop's answer to a history is what its completions say: accepted or rejected exactly when all of them are.
-- A history is decided by S units, and the empty one is not.
-- Assumes nothing.
use Prim.Native.Nat.{ℕ, ◌-◌, ◌≤◌, ◌<◌}
use mathlib.Core.Path.{◌≡◌, refl, sym, ap, ap₂, ◌∙◌}
use mathlib.Core.Logic.{◌↔◌, ◌≢◌}
use mathlib.Core.List.{List, ◌++◌}
use native.Mathlib.Omega.{arith}
use native.Mathlib.Decide.{dec_lt}
use lib.ListN.{length, take, replicate, length-append, length-replicate}
use lib.Seq.{length-take-le, take-take, take-append_seam, take_all}
use Rattle.plan.specs.declared.counts.Counts.{Counts}
use Rattle.plan.specs.declared.stage.Answer.{Answer}
use Rattle.plan.specs.declared.stage.Answer.TheVariants.{GoOn, Accept, Reject}
use Rattle.plan.specs.declared.stage.Stage.{Stage}
use Rattle.plan.specs.Plan.{total}
use Rattle.plan.specs.Counts.{units, nongood, nonbad, no_units, counts}
use Rattle.plan.specs.Stopping.{accepts, at_filled, completed, earliest, only_reject, settled}
use Rattle.plan.specs.Sample.{highest_class, Classes, verdict, Completion, AllHave}
use Rattle.plan.specs.Promise.{History, rank}
use Rattle.plan.proofs.Counting.{add_good, add_bad}
use Rattle.plan.proofs.Order.{top, bottom, accepts_worst, rejects_best, undecided, not_accepted, not_rejected}
use Rattle.plan.proofs.Sample.{classes_append, classes_replicate, classes_take}
use Rattle.plan.proofs.StageTests.{not_rejects_below}
use Rattle.plan.proofs.Ends.{Each, first_mono, first_same, first_on, end_case}
use Rattle.plan.proofs.Limits.{Sound, Limits, decides}
use Rattle.plan.proofs.Prefix.{Ended, ended, worst, best, reached}

-- ---- the completion by units of one class

pub filled : (class : ℕ) (p : List Stage) (h : List ℕ) → class ≤ highest_class → Classes h → length h ≤ total p
    → Completion p h (h ++ replicate (total p - length h) class)
filled class p h l c n = record {
  complete = omega (arith, length-append h (replicate (total p - length h) class), length-replicate (total p - length h) class);
  classes = classes_append h _ c (classes_replicate (total p - length h) class l);
  begins = take-append_seam h (replicate (total p - length h) class);
}

-- ---- what comes before in a history is a history

pub history_take : (p : List Stage) (h : List ℕ) (y : ℕ) → y ≤ length h → History p h → History p (take y h)
history_take p h y l k =
    let n : length (take y h) ≡ y = length-take-le y h l in
    record {
      classes = classes_take y h k.classes;
      undecided_before = λ z m. rw (take-take z y h (omega arith)) (k.undecided_before z (omega arith));
    }

-- ---- the states are right

pub record Right (p : List Stage) (h : List ℕ) : Type 0 where
  pub accepted : (earliest p (counts h) ≡ Accept) ↔ AllHave p h Accept
  pub rejected : (earliest p (counts h) ≡ Reject) ↔ AllHave p h Reject

module _ (p : List Stage) (h : List ℕ) (k : History p h) where
  at_ends : Each (Ended (total p) h) 0 p
  unfolding earliest
  at_ends = ended (total p) h 0 p (omega arith) (λ y l m. k.undecided_before y m)

  no_worse : (x : List ℕ) → Completion p h x → rank (completed 2 0 p (counts h)) ≤ rank (verdict p x)
  unfolding verdict completed
  no_worse x q =
      first_mono (Ended (total p) h) _ _ (λ end s e. worst (total p) h x q.begins end s e (omega (arith, e.within, q.complete))) 0 p at_ends

  no_better : (x : List ℕ) → Completion p h x → rank (verdict p x) ≤ rank (completed 0 0 p (counts h))
  unfolding verdict completed
  no_better x q =
      first_mono (Ended (total p) h) _ _ (λ end s e. best (total p) h x q.begins end s e (omega (arith, e.within, q.complete))) 0 p at_ends

  exact : (class : ℕ) → verdict p (h ++ replicate (total p - length h) class) ≡ completed class 0 p (counts h)
  unfolding verdict completed
  exact class = first_same (Ended (total p) h) _ _ (reached class (total p) h (total p - length h) (omega arith)) 0 p at_ends

  right_within : length h ≤ total p → Right p h
  unfolding earliest only_reject settled
  right_within n =
      let one : (class : ℕ) → class ≤ highest_class → (v : Answer) → AllHave p h v → completed class 0 p (counts h) ≡ v
      = λ class l v f. sym (exact class) ∙ f _ (filled class p h l k.classes n) in
      record {
        accepted = (
          λ e x q. top (verdict p x) (omega (arith, no_worse x q, ap rank (accepts_worst (completed 2 0 p (counts h)) (completed 0 0 p (counts h)) e))),
          λ f. rw (one 2 (omega arith) Accept f),
        );
        rejected = (
          λ e x q. bottom (verdict p x) (omega (arith, no_better x q, ap rank (rejects_best (completed 2 0 p (counts h)) (completed 0 0 p (counts h)) e))),
          λ f. rw (one 2 (omega arith) Reject f, one 0 (omega arith) Reject f),
        );
      }

-- all completions have one verdict, which is not to go on: then the history is decided
pub settles : (p : List Stage) (h : List ℕ) → Right p h → (v : Answer) → v ≢ GoOn → AllHave p h v → earliest p (counts h) ≡ v
settles p h r GoOn n f = absurd (n refl)
settles p h r Accept n f = r.accepted.1 f
settles p h r Reject n f = r.rejected.1 f

-- ---- a history is decided by S units

module _ (p : List Stage) (l : Limits p) where
  pub verdict_decides : (x : List ℕ) → verdict p x ≢ GoOn
  unfolding verdict
  verdict_decides x = decides (λ end. counts (take end x)) p l

  only_itself : (h x : List ℕ) → length h ≡ total p → Completion p h x → x ≡ h
  only_itself h x e q = sym (take_all (length h) x (omega (arith, q.complete))) ∙ q.begins

  pub decided : (h : List ℕ) → History p h → length h ≡ total p → earliest p (counts h) ≢ GoOn
  decided h k e g =
      verdict_decides h (sym (settles p h (right_within p h k (omega arith)) (verdict p h) (verdict_decides h) (λ x q. ap (verdict p) (only_itself h x e q))) ∙ g)

  pub no_longer : (h : List ℕ) → History p h → length h ≤ total p
  no_longer h k = go (dec_lt (total p) (length h))
    where
      go : Dec (total p < length h) → length h ≤ total p
      go (no m) = omega arith
      go (yes m) = absurd (decided (take (total p) h) (history_take p h (total p) (omega arith) k) (length-take-le (total p) h (omega arith)) (k.undecided_before (total p) m))

  pub right : (h : List ℕ) → History p h → Right p h
  right h k = right_within p h k (no_longer h k)

  -- ---- units of one class: bad ones alone are not accepted, good ones alone not rejected, and none at all are undecided

  worst_bad : (c : Counts) → nonbad c ≡ 0 → (end : ℕ) (s : Stage) → Sound end s → rank (at_filled 2 c end s) ≤ rank GoOn
  worst_bad c z end s m = end_case 2 c end s (λ a. rank a ≤ 1) (λ n. omega arith)
      (λ n. rw (add_bad (end - units c) c) (not_accepted s _ (ap₂ (accepts s) (omega arith) (omega arith) ∙ m.not_all_bad)))

  best_good : (c : Counts) → nongood c ≡ 0 → (end : ℕ) (s : Stage) → Sound end s → rank GoOn ≤ rank (at_filled 0 c end s)
  best_good c z end s m = end_case 0 c end s (λ a. 1 ≤ rank a) (λ n. omega arith)
      (λ n. rw (add_good (end - units c) c) (not_rejected s _ (not_rejects_below s _ (omega (arith, m.reject2)) (omega (arith, m.reject1)))))

  worst_case : (c : Counts) → nonbad c ≡ 0 → rank (completed 2 0 p c) ≤ 1
  unfolding completed
  worst_case c z = omega (arith, first_mono Sound (at_filled 2 c) (λ end s. GoOn) (worst_bad c z) 0 p l.sound, ap rank (first_on 0 p))

  best_case : (c : Counts) → nongood c ≡ 0 → 1 ≤ rank (completed 0 0 p c)
  unfolding completed
  best_case c z = omega (arith, first_mono Sound (λ end s. GoOn) (at_filled 0 c) (best_good c z) 0 p l.sound, ap rank (first_on 0 p))

  pub bad_alone : (c : Counts) → nonbad c ≡ 0 → earliest p c ≢ Accept
  unfolding earliest
  bad_alone c z e = let k = ap rank (accepts_worst (completed 2 0 p c) (completed 0 0 p c) e) in omega (arith, worst_case c z)

  pub good_alone : (c : Counts) → nongood c ≡ 0 → earliest p c ≢ Reject
  unfolding earliest
  good_alone c z e = let k = ap rank (rejects_best (completed 2 0 p c) (completed 0 0 p c) e) in omega (arith, best_case c z)

  pub empty : earliest p no_units ≡ GoOn
  unfolding earliest
  empty = undecided (completed 2 0 p no_units) (completed 0 0 p no_units) (worst_case no_units refl) (best_case no_units refl)
