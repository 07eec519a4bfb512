-- At a stop of full on one stage exactly one of the six events holds. Assumes nothing.
use Prim.Native.Nat.{ℕ, ◌-◌, ◌≤◌, ◌<◌}
use native.Mathlib.Omega.{arith}
use native.Mathlib.Decide.{dec_lt}
use mathlib.Core.Path.{◌≡◌}
use mathlib.Core.Logic.{◌⊎◌, inl, inr}
use mathlib.Core.Bool.{and-false}
use borrow.Author.Tests.{lt-ltb, le-ltb, eq-eqb, ne_eqb}
use Rattle.plan.specs.declared.counts.Counts.{Counts}
use Rattle.plan.specs.Counts.{units, nongood, nonbad}
use Rattle.judge.specs.Event.{limit, events, how_many}

-- what holds at a stop of full on a stage of size n with rejection numbers r1 and r2: at an acceptance one of the two limits
-- was reached with the last unit, at a rejection one of the two rejection numbers was
pub record Accepted (n r1 r2 : ℕ) (c : Counts) : Type 0 where
  pub rows : r2 ≤ r1
  pub within : r1 ≤ n
  pub bad : c.bad < r2
  pub nongood : nongood c < r1
  pub good_from : limit n r1 ≤ c.good
  pub nonbad_from : limit n r2 ≤ nonbad c
  pub just : (nonbad c ≡ limit n r2) ⊎ (c.good ≡ limit n r1)

pub record Rejected (n r1 r2 : ℕ) (c : Counts) : Type 0 where
  pub rows : r2 ≤ r1
  pub within : r1 ≤ n
  pub units : units c ≤ n
  pub bad_to : c.bad ≤ r2
  pub nongood_to : nongood c ≤ r1
  pub just : (c.bad ≡ r2) ⊎ (nongood c ≡ r1)

module _ (n r1 r2 : ℕ) (c : Counts) where
  abbrev g1 : ℕ
  g1 = limit n r1

  abbrev g2 : ℕ
  g2 = limit n r2

  abbrev One : Type 0
  One = how_many (events n r1 r2 c) ≡ 1

  pub accepted : Accepted n r1 r2 c → One
  accepted f = go (dec_lt g1 c.good) (dec_lt g2 (nonbad c)) f.just
    where
      go : Dec (g1 < c.good) → Dec (g2 < nonbad c) → (nonbad c ≡ limit n r2) ⊎ (c.good ≡ limit n r1) → One
      go (yes a) (yes b) (inl j) = absurd (omega arith)
      go (yes a) (yes b) (inr j) = absurd (omega arith)
      go (yes a) (no b) j =
          let eq : nonbad c ≡ g2 = omega (arith, f.nonbad_from) in
          simp (eq-eqb (nonbad c) g2 eq, lt-ltb g1 c.good a, ne_eqb c.good g1 (λ e. omega arith), ne_eqb c.bad r2 (λ e. omega (arith, f.bad)), ne_eqb (nongood c) r1 (λ e. omega (arith, f.nongood)), and-false)
      go (no a) (yes b) j =
          let eq : c.good ≡ g1 = omega (arith, f.good_from) in
          simp (ne_eqb (nonbad c) g2 (λ e. omega arith), eq-eqb c.good g1 eq, lt-ltb (r1 - r2) c.marginal (omega (arith, f.rows, f.within)), ne_eqb c.bad r2 (λ e. omega (arith, f.bad)), ne_eqb (nongood c) r1 (λ e. omega (arith, f.nongood)), and-false)
      go (no a) (no b) j =
          let eq1 : c.good ≡ g1 = omega (arith, f.good_from) in
          let eq2 : nonbad c ≡ g2 = omega (arith, f.nonbad_from) in
          simp (eq-eqb (nonbad c) g2 eq2, eq-eqb c.good g1 eq1, le-ltb g1 c.good (omega arith), le-ltb (r1 - r2) c.marginal (omega (arith, f.rows, f.within)), ne_eqb c.bad r2 (λ e. omega (arith, f.bad)), ne_eqb (nongood c) r1 (λ e. omega (arith, f.nongood)), and-false)

  pub rejected : Rejected n r1 r2 c → One
  rejected f = go (dec_lt c.bad r2) (dec_lt (nongood c) r1) f.just
    where
      go : Dec (c.bad < r2) → Dec (nongood c < r1) → (c.bad ≡ r2) ⊎ (nongood c ≡ r1) → One
      go (yes a) (yes b) (inl j) = absurd (omega arith)
      go (yes a) (yes b) (inr j) = absurd (omega arith)
      go (no a) (yes b) j =
          let eq : c.bad ≡ r2 = omega (arith, f.bad_to) in
          simp (ne_eqb (nonbad c) g2 (λ e. omega (arith, f.units, f.within, f.rows)), le-ltb (r1 - r2) c.marginal (omega arith), eq-eqb c.bad r2 eq, lt-ltb c.marginal (r1 - r2) (omega arith), ne_eqb (nongood c) r1 (λ e. omega arith), ne_eqb c.marginal (r1 - r2) (λ e. omega (arith, f.rows)), and-false)
      go (yes a) (no b) j =
          let eq : nongood c ≡ r1 = omega (arith, f.nongood_to) in
          simp (le-ltb g1 c.good (omega (arith, f.units, f.within)), ne_eqb c.good g1 (λ e. omega (arith, f.units, f.within)), ne_eqb c.bad r2 (λ e. omega arith), eq-eqb (nongood c) r1 eq, lt-ltb c.bad r2 a, and-false)
      go (no a) (no b) j =
          let eq1 : nongood c ≡ r1 = omega (arith, f.nongood_to) in
          let eq2 : c.bad ≡ r2 = omega (arith, f.bad_to) in
          simp (le-ltb g1 c.good (omega (arith, f.units, f.within)), ne_eqb c.good g1 (λ e. omega (arith, f.units, f.within)), eq-eqb c.bad r2 eq2, le-ltb c.marginal (r1 - r2) (omega arith), eq-eqb (nongood c) r1 eq1, le-ltb c.bad r2 (omega arith), eq-eqb c.marginal (r1 - r2) (omega arith), and-false)
