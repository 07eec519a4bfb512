-- Certain lots: where all units are of one class, each draw has one outcome, and both bounds are its value.
-- Assumes nothing.
use Prim.Native.Nat.{ℕ, zero, suc, ◌+◌, ◌-◌, ◌≤◌, ◌<◌}
use mathlib.Core.Path.{◌≡◌, refl, ap, ◌∙◌}
use mathlib.Core.List.{List}
use native.Mathlib.Nat.{zero-mul}
use native.Mathlib.Omega.{arith}
use Rattle.plan.specs.declared.counts.Counts.{Counts}
use Rattle.plan.specs.declared.stage.Answer.{Answer}
use Rattle.plan.specs.declared.stage.Answer.TheVariants.{GoOn, Accept, Reject}
use Rattle.plan.specs.declared.stage.Stage.{Stage}
use Rattle.plan.specs.Plan.{stages, total}
use Rattle.plan.specs.Counts.{units, nongood, nonbad, no_units, add_units}
use Rattle.plan.specs.Stopping.{earliest}
use Rattle.plan.specs.Promise.{Promise}
use Rattle.plan.proofs.Promise.{promise, counting}
use Rattle.chance.specs.declared.mean.Weights.{Weights}
use Rattle.chance.specs.Bounds.{weight_sum, weighted, weighted_sum, Rounding, down, up, rounded, terminal, bound}
use Rattle.chance.specs.Chance.{scale, chance_value, left_of}
use Rattle.chance.specs.Reply.{weights_of}
use Rattle.chance.specs.Lot.{lot_bound, lot_low, lot_high}
use Rattle.chance.specs.LotLaws.{CertainLaw}
use Rattle.chance.proofs.Rounding.{mean_even}
use Rattle.chance.proofs.Decisions.{answered}

-- a lot whose units are all of the class x, at the counts that a draw of it comes to, and the value of every answer there
record Sole (p : List Stage) (lot : Weights) (x value : ℕ) (On : Counts → Type 0) : Type 0 where
  starts : On no_units
  stays : (c : Counts) → On c → On (add_units x 1 c)
  alone : (c : Counts) → On c → (f : ℕ → ℕ) → weighted_sum (left_of lot c) f ≡ weighted (left_of lot c) (f x) (f x) (f x)
  some : (c : Counts) → On c → units c < total p → 0 < weight_sum (left_of lot c)
  accepted : (c : Counts) → On c → earliest p c ≡ Accept → scale ≡ value
  rejected : (c : Counts) → On c → earliest p c ≡ Reject → 0 ≡ value

module _ (r : Rounding) (p : List Stage) (kept : Promise p) (lot : Weights) (x value : ℕ) (On : Counts → Type 0) (sole : Sole p lot x value On) where
  outcome : (c : Counts) → On c → (further : ℕ) → (earliest p c ≡ GoOn → further ≡ value) → terminal (chance_value p (left_of lot)) (earliest p c) further ≡ value
  outcome c o further h = go (earliest p c) refl
    where
      go : (a : Answer) → earliest p c ≡ a → terminal (chance_value p (left_of lot)) a further ≡ value
      go GoOn e = h e
      go Accept e = sole.accepted c o e
      go Reject e = sole.rejected c o e

  after : (n : ℕ) (c : Counts) → On c → units c + n ≡ total p → bound r (chance_value p (left_of lot)) n c ≡ value
  after zero c o e = outcome c o _ (λ g. absurd (answered p kept c (omega arith) g))
  after (suc n) c o e =
      let w : Weights = left_of lot c in
      let next : ℕ → ℕ = λ z. bound r (chance_value p (left_of lot)) n (add_units z 1 c) in
      let one : next x ≡ value = after n (add_units x 1 c) (sole.stays c o) (omega (arith, counting.added x 1 c)) in
      let mean : rounded r (weighted_sum w next) (weight_sum w) ≡ value =
      ap (λ (k : ℕ). rounded r k (weight_sum w)) (sole.alone c o next) ∙ mean_even r w (next x) (sole.some c o (omega arith)) ∙ one in
      outcome c o (0 + rounded r (weighted_sum w next) (weight_sum w)) (λ g. omega (arith, mean))

  certain : lot_bound r p lot ≡ value
  certain = after (total p) no_units sole.starts (omega arith)

none : (n : ℕ) → 0 - n ≡ 0
none n = omega arith

module _ (p : List Stage) (kept : Promise p) (t : ℕ) (enough : total p ≤ t) where
  all_good : Sole p (weights_of t 0 0) 0 scale (λ c. nongood c ≡ 0)
  all_good = record {
    starts = refl;
    stays = λ c o. rw (counting.good 1 c) o;
    alone = λ c o f. simp (none c.marginal, none c.bad, zero-mul);
    some = λ c o l. omega arith;
    accepted = λ c o e. refl;
    rejected = λ c o e. absurd (kept.good_alone c o e);
  }

  all_bad : Sole p (weights_of 0 0 t) 2 0 (λ c. nonbad c ≡ 0)
  all_bad = record {
    starts = refl;
    stays = λ c o. rw (counting.bad 1 c) o;
    alone = λ c o f. simp (none c.good, none c.marginal, zero-mul);
    some = λ c o l. omega arith;
    accepted = λ c o e. absurd (kept.bad_alone c o e);
    rejected = λ c o e. refl;
  }

pub certain_law : CertainLaw
unfolding lot_low lot_high
certain_law plan t ok enough =
    let p : List Stage = stages plan in
    let kept = promise plan ok in
    let good : (r : Rounding) → lot_bound r p (weights_of t 0 0) ≡ scale =
    λ r. certain r p kept (weights_of t 0 0) 0 scale (λ c. nongood c ≡ 0) (all_good p kept t enough) in
    let bad : (r : Rounding) → lot_bound r p (weights_of 0 0 t) ≡ 0 =
    λ r. certain r p kept (weights_of 0 0 t) 2 0 (λ c. nonbad c ≡ 0) (all_bad p kept t enough) in
    ((λ i. record { low = good down i; high = good up i }), λ i. record { low = bad down i; high = bad up i })
