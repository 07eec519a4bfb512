-- A history whose proper prefixes are all undecided: what each stage's end says of it, and of its completions.
-- Assumes nothing.
use Prim.Native.Nat.{ℕ, zero, suc, ◌+◌, ◌-◌, ◌≤◌, ◌<◌}
use mathlib.Core.Path.{◌≡◌, refl, sym, ap, ◌∙◌}
use mathlib.Core.Bool.{cond}
use mathlib.Core.List.{List, [], ◌∷◌, ◌++◌}
use native.Mathlib.Omega.{arith}
use native.Mathlib.Nat.{le_of_suc-le-suc, not-suc-le-zero}
use lib.ListN.{length, take, replicate}
use lib.Seq.{take-take, take-append-add, take-append_seam}
use lib.Dec.{ltb}
use borrow.Author.Tests.{le-ltb}
use Rattle.plan.specs.declared.counts.Counts.{Counts}
use Rattle.plan.specs.declared.stage.Answer.TheVariants.{GoOn}
use Rattle.plan.specs.declared.stage.Stage.{Stage}
use Rattle.plan.specs.Plan.{total}
use Rattle.plan.specs.Counts.{units, add_units, counts}
use Rattle.plan.specs.Stopping.{at_end, at_filled, completed, settled, first_answer}
use Rattle.plan.specs.Promise.{rank, More}
use Rattle.plan.proofs.Order.{at_end_mono, Better, settled_past}
use Rattle.plan.proofs.Counting.{more_taken, units_counts, units_taken, counts_append, add_none, after_replicate}
use Rattle.plan.proofs.Ends.{Each, end_case}

-- ---- more units are no worse than bad ones and no better than good ones

pub worst_added : (n : ℕ) (c d : Counts) → More n c d → Better d (add_units 2 n c)
unfolding add_units
worst_added n c d m = omega arith

pub best_added : (n : ℕ) (c d : Counts) → More n c d → Better (add_units 0 n c) d
unfolding add_units
best_added n c d m = omega arith

-- ---- the ends that are reached

-- what a stage's end says of the history h, of at most `bound` units
pub record Ended (bound : ℕ) (h : List ℕ) (end : ℕ) (s : Stage) : Type 0 where
  pub within : end ≤ bound
  pub went_on : end < length h → at_end s (counts (take end h)) ≡ GoOn

abbrev Undecided : ℕ → List Stage → Counts → Type 0
Undecided before p c = settled (completed 2 before p c) (completed 0 before p c) ≡ GoOn

-- at an end that is reached or past, the class of further units does not matter
filled_past : (class : ℕ) (c : Counts) (end : ℕ) (s : Stage) → end ≤ units c
    → at_filled class c end s ≡ cond (ltb end (units c)) GoOn (at_end s c)
unfolding at_filled
filled_past class c end s h =
    let none : end - units c ≡ 0 = omega arith in
    ap (λ (d : Counts). cond (ltb end (units c)) GoOn (at_end s d)) (ap (λ (n : ℕ). add_units class n c) none ∙ sym (add_none class c))

past : (before : ℕ) (s : Stage) (rest : List Stage) (c : Counts) → before + s.size ≤ units c → Undecided before (s ∷ rest) c
    → (cond (ltb (before + s.size) (units c)) GoOn (at_end s c) ≡ GoOn) × Undecided (before + s.size) rest c
unfolding first_answer completed
past before s rest c l u =
    settled_past _ _ _ (rw (filled_past 2 c (before + s.size) s l, filled_past 0 c (before + s.size) s l) at u)

pub ended : (bound : ℕ) (h : List ℕ) (before : ℕ) (p : List Stage) → before + total p ≤ bound
    → ((y : ℕ) → before ≤ y → y < length h → Undecided before p (counts (take y h))) → Each (Ended bound h) before p
unfolding total
ended bound h before [] w o = tt
ended bound h before (s ∷ rest) w o =
    let end : ℕ = before + s.size in
    let n : (y : ℕ) → y < length h → units (counts (take y h)) ≡ y = λ y k. units_taken h y (omega arith) in
    let now : (y : ℕ) → end ≤ y → y < length h → (cond (ltb end (units (counts (take y h)))) GoOn (at_end s (counts (take y h))) ≡ GoOn) × Undecided end rest (counts (take y h))
    = λ y l k. past before s rest (counts (take y h)) (omega (arith, n y k)) (o y (omega arith) k) in (
      record { within = omega arith; went_on = λ k. rw (le-ltb end (units (counts (take end h))) (omega (arith, n end k))) at (now end (omega arith) k).0 },
      ended bound h end rest (omega arith) (λ y l k. (now y l k).1),
    )

-- ---- a sample x that begins with h, at a stage's end

module _ (bound : ℕ) (h x : List ℕ) (begins : take (length h) x ≡ h) (end : ℕ) (s : Stage) (e : Ended bound h end s) where
  past_same : end < units (counts h) → at_end s (counts (take end x)) ≡ GoOn
  past_same l =
      let k : end < length h = omega (arith, units_counts h) in
      ap (λ (r : List ℕ). at_end s (counts r)) (sym (take-take end (length h) x (omega arith)) ∙ ap (take end) begins) ∙ e.went_on k

  -- no more units of x than up to the end are beyond h
  beyond : end ≤ length x → units (counts h) ≤ end → More (end - units (counts h)) (counts h) (counts (take end x))
  beyond w l =
      let u = units_counts h in
      rw u (rw begins at (more_taken x (length h) end (omega arith) w))

  pub worst : end ≤ length x → rank (at_filled 2 (counts h) end s) ≤ rank (at_end s (counts (take end x)))
  worst w =
      end_case 2 (counts h) end s (λ a. rank a ≤ rank (at_end s (counts (take end x))))
      (λ l. omega (arith, ap rank (past_same l)))
      (λ l. at_end_mono s (counts (take end x)) (add_units 2 (end - units (counts h)) (counts h)) (worst_added _ _ _ (beyond w l)))

  pub best : end ≤ length x → rank (at_end s (counts (take end x))) ≤ rank (at_filled 0 (counts h) end s)
  best w =
      end_case 0 (counts h) end s (λ a. rank (at_end s (counts (take end x))) ≤ rank a)
      (λ l. omega (arith, ap rank (past_same l)))
      (λ l. at_end_mono s (add_units 0 (end - units (counts h)) (counts h)) (counts (take end x)) (best_added _ _ _ (beyond w l)))

-- ---- the sample that goes on with m units of one class

take_replicate : (j m k : ℕ) → j ≤ m → take j (replicate m k) ≡ replicate j k
take_replicate zero m k h = refl
take_replicate (suc j) zero k h = absurd (not-suc-le-zero h)
take_replicate (suc j) (suc m) k h = ap (λ (r : List ℕ). k ∷ r) (take_replicate j m k (le_of_suc-le-suc h))

module _ (class bound : ℕ) (h : List ℕ) (m : ℕ) (fits : bound ≤ length h + m) where
  pub reached : (end : ℕ) (s : Stage) → Ended bound h end s → at_end s (counts (take end (h ++ replicate m class))) ≡ at_filled class (counts h) end s
  reached end s e =
      end_case class (counts h) end s (λ a. at_end s (counts (take end (h ++ replicate m class))) ≡ a)
      (past_same bound h (h ++ replicate m class) (take-append_seam h (replicate m class)) end s e)
      (λ l.
      let j : ℕ = end - units (counts h) in
      let u = units_counts h in
      let at : end ≡ length h + j = omega arith in
      ap (at_end s)
      (ap counts (ap (λ (n : ℕ). take n (h ++ replicate m class)) at ∙ take-append-add h (replicate m class) j
      ∙ ap (λ (r : List ℕ). h ++ r) (take_replicate j m class (omega (arith, e.within))))
      ∙ counts_append h (replicate j class) ∙ after_replicate class j (counts h)))
