-- An answer by two tests, rejection first: what each answer says of them, and which one they give. Here alone `decide` is opened.
-- Assumes nothing.
use Prim.Native.Nat.{◌≤◌}
use native.Mathlib.Omega.{arith}
use mathlib.Core.Path.{◌≡◌, refl, sym}
use mathlib.Core.Bool.{Bool, true, false}
use Rattle.plan.specs.declared.stage.Answer.TheVariants.{GoOn, Accept, Reject}
use Rattle.plan.specs.Stopping.{decide}
use Rattle.plan.specs.Promise.{rank}
use Rattle.plan.proofs.Bools.{true_not_false}
use Rattle.plan.proofs.Answers.{accept_stops, reject_stops, accept_not_reject}

module _ (r a : Bool) where
  pub decided_reject : r ≡ true → decide r a ≡ Reject
  unfolding decide
  decided_reject e = rw e

  pub decided_accept : r ≡ false → a ≡ true → decide r a ≡ Accept
  unfolding decide
  decided_accept e f = rw (e, f)

  pub decided_on : r ≡ false → a ≡ false → decide r a ≡ GoOn
  unfolding decide
  decided_on e f = rw (e, f)

-- and back
pub when_reject : (r a : Bool) → decide r a ≡ Reject → r ≡ true
unfolding decide
when_reject true a e = refl
when_reject false true e = absurd (accept_not_reject e)
when_reject false false e = absurd (reject_stops (sym e))

pub when_accept : (r a : Bool) → decide r a ≡ Accept → (r ≡ false) × (a ≡ true)
unfolding decide
when_accept true a e = absurd (accept_not_reject (sym e))
when_accept false true e = (refl, refl)
when_accept false false e = absurd (accept_stops (sym e))

pub when_on : (r a : Bool) → decide r a ≡ GoOn → (r ≡ false) × (a ≡ false)
unfolding decide
when_on true a e = absurd (reject_stops e)
when_on false true e = absurd (accept_stops e)
when_on false false e = (refl, refl)

-- ---- in the order of answers

pub decide_mono : (r a r' a' : Bool) → (r' ≡ true → r ≡ true) → (a ≡ true → a' ≡ true) → rank (decide r a) ≤ rank (decide r' a')
unfolding decide
decide_mono true a r' a' f g = omega arith
decide_mono false a true a' f g = absurd (true_not_false (sym (f refl)))
decide_mono false true false true f g = omega arith
decide_mono false true false false f g = absurd (true_not_false (sym (g refl)))
decide_mono false false false true f g = omega arith
decide_mono false false false false f g = omega arith

pub not_accept : (r a : Bool) → a ≡ false → rank (decide r a) ≤ 1
unfolding decide
not_accept true a e = omega arith
not_accept false true e = absurd (true_not_false e)
not_accept false false e = omega arith

pub not_reject : (r a : Bool) → r ≡ false → 1 ≤ rank (decide r a)
unfolding decide
not_reject true a e = absurd (true_not_false e)
not_reject false true e = omega arith
not_reject false false e = omega arith
