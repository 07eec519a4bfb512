-- Units of one class alone: each sequence that has a weight is the same, and both bounds are the units at its stop.
-- Assumes nothing.
use Prim.Native.Nat.{ℕ, zero, suc, ◌+◌, ◌*◌, ◌≤◌, ◌<◌}
use mathlib.Core.Path.{◌≡◌, refl, sym, ap, subst, ◌∙◌}
use mathlib.Core.Logic.{◌≢◌}
use mathlib.Core.List.{List, []}
use lib.ListN.{take, replicate, length-replicate}
use native.Mathlib.Nat.{zero-mul}
use native.Mathlib.Omega.{arith}
use Rattle.plan.specs.declared.counts.Counts.{Counts}
use Rattle.plan.specs.declared.stage.Answer.{Answer}
use Rattle.plan.specs.declared.stage.Answer.TheVariants.{GoOn, Accept, Reject}
use Rattle.plan.specs.declared.stage.Stage.{Stage}
use Rattle.plan.specs.Plan.{stages, total}
use Rattle.plan.specs.Counts.{units, nongood, nonbad, no_units, add_units, counts_after, counts}
use Rattle.plan.specs.Stopping.{earliest}
use Rattle.plan.specs.Sample.{highest_class, Classes, verdict, Stops}
use Rattle.plan.specs.Promise.{earliest_rule, Promise}
use Rattle.plan.proofs.Promise.{promise, counting, histories}
use Rattle.plan.proofs.Sample.{classing}
use Rattle.chance.specs.declared.mean.Weights.{Weights}
use Rattle.chance.specs.Bounds.{weight_sum, weighted, weighted_sum, Rounding, down, up, rounded, terminal, bound}
use Rattle.chance.specs.Chance.{constant}
use Rattle.chance.specs.Units.{while_going_on, units_after, stop_units, unit_scale, units_value, units_bound, units_low, units_high}
use Rattle.chance.specs.UnitsLaws.{one_class, OneClassLaw, OneVerdictLaw}
use Rattle.chance.proofs.Rounding.{mean_even}
use Rattle.chance.proofs.Decisions.{answered}

-- ---- both bounds

-- the other classes have no say in the weighted sum
alone : (x k : ℕ) → x ≤ 2 → (f : ℕ → ℕ) → weighted_sum (one_class x k) f ≡ weighted (one_class x k) (f x) (f x) (f x)
alone zero k l f = simp zero-mul
alone (suc zero) k l f = simp zero-mul
alone (suc (suc zero)) k l f = simp zero-mul
alone (suc (suc (suc x))) k l f = absurd (omega arith)

some_weight : (x k : ℕ) → 0 < k → 0 < weight_sum (one_class x k)
some_weight zero k h = omega arith
some_weight (suc zero) k h = omega arith
some_weight (suc (suc x)) k h = omega arith

module _ (r : Rounding) (p : List Stage) (kept : Promise p) (x k : ℕ) (l : x ≤ 2) (some : 0 < k) where
  abbrev w : Weights
  w = one_class x k

  after : (n : ℕ) (c : Counts) → units c + n ≡ total p → bound r (units_value p (constant w)) n c ≡ units_after p c (replicate n x) * unit_scale
  after zero c e = go (earliest p c) refl
    where
      go : (a : Answer) → earliest p c ≡ a → terminal (units_value p (constant w)) a (unit_scale + rounded r (weighted_sum w (λ z. 0)) (weight_sum w)) ≡ 0
      go GoOn d = absurd (answered p kept c (omega arith) d)
      go Accept d = refl
      go Reject d = refl
  after (suc n) c e = go (earliest p c) (after n (add_units x 1 c) (omega (arith, counting.added x 1 c)))
    where
      next : ℕ → ℕ
      next z = bound r (units_value p (constant w)) n (add_units z 1 c)

      rest : ℕ
      rest = units_after p (add_units x 1 c) (replicate n x)

      mean : rounded r (weighted_sum w next) (weight_sum w) ≡ next x
      mean = ap (λ (m : ℕ). rounded r m (weight_sum w)) (alone x k l next) ∙ mean_even r w (next x) (some_weight x k some)

      go : (a : Answer) → next x ≡ rest * unit_scale
          → terminal (units_value p (constant w)) a (unit_scale + rounded r (weighted_sum w next) (weight_sum w)) ≡ while_going_on a (1 + rest) * unit_scale
      go GoOn one = omega (arith, mean, one)
      go Accept one = refl
      go Reject one = refl

  at_stop : units_bound r p w ≡ stop_units p (replicate (total p) x) * unit_scale
  at_stop = after (total p) no_units (omega arith)

pub one_class_law : OneClassLaw
unfolding units_low units_high
one_class_law plan x k ok l some =
    let p : List Stage = stages plan in
    let stop : (r : Rounding) → units_bound r p (one_class x k) ≡ stop_units p (replicate (total p) x) * unit_scale = λ r. at_stop r p (promise plan ok) x k l some in
    (λ i. record { low = stop down i; high = stop up i })

-- ---- the verdict

same_classes : (n x : ℕ) → x ≤ highest_class → Classes (replicate n x)
same_classes zero x l = classing.none
same_classes (suc n) x l = classing.more x (replicate n x) l (same_classes n x l)

-- what a unit of the class x keeps holds at each beginning of units of that class
module _ (x : ℕ) (On : Counts → Type 0) (stays : (c : Counts) → On c → On (add_units x 1 c)) where
  along : (n y : ℕ) (c : Counts) → On c → On (counts_after c (take y (replicate n x)))
  along zero zero c o = subst On (sym (counting.after_none c)) o
  along zero (suc y) c o = subst On (sym (counting.after_none c)) o
  along (suc n) zero c o = subst On (sym (counting.after_none c)) o
  along (suc n) (suc y) c o = subst On (sym (counting.after_one c x (take y (replicate n x)))) (along n y (add_units x 1 c) (stays c o))

  -- at the stop of S such units
  at_their_stop : (p : List Stage) → Promise p → x ≤ highest_class → On no_units
      → (y : ℕ) × On (counts (take y (replicate (total p) x))) × Stops (earliest_rule p) (replicate (total p) x) y (verdict p (replicate (total p) x))
  at_their_stop p kept l o =
      let sample = replicate (total p) x in
      let s = kept.faithful sample ((histories p).completion [] sample classing.none (same_classes (total p) x l) (omega (arith, length-replicate (total p) x))) in
      (s.0, subst On (sym (counting.counted (take s.0 sample))) (along (total p) s.0 no_units o), s.1)

only_accept : (a : Answer) → a ≢ GoOn → a ≢ Reject → a ≡ Accept
only_accept GoOn d r = absurd (d refl)
only_accept Accept d r = refl
only_accept Reject d r = absurd (r refl)

only_reject : (a : Answer) → a ≢ GoOn → a ≢ Accept → a ≡ Reject
only_reject GoOn d r = absurd (d refl)
only_reject Accept d r = absurd (r refl)
only_reject Reject d r = refl

pub one_verdict_law : OneVerdictLaw
one_verdict_law plan ok =
    let p : List Stage = stages plan in
    let kept = promise plan ok in
    let good = at_their_stop 0 (λ c. nongood c ≡ 0) (λ c o. rw (counting.good 1 c) o) p kept (omega arith) refl in
    let bad = at_their_stop 2 (λ c. nonbad c ≡ 0) (λ c o. rw (counting.bad 1 c) o) p kept (omega arith) refl in (
      only_accept (verdict p (replicate (total p) 0)) good.2.decides (λ e. kept.good_alone (counts (take good.0 (replicate (total p) 0))) good.1 (good.2.there ∙ e)),
      only_reject (verdict p (replicate (total p) 2)) bad.2.decides (λ e. kept.bad_alone (counts (take bad.0 (replicate (total p) 2))) bad.1 (bad.2.there ∙ e)),
    )
