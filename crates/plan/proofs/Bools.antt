-- Laws of tests beyond the library's, for all crates. Assumes nothing.
use Prim.Native.Nat.{ℕ}
use native.Mathlib.Omega.{arith}
use mathlib.Core.Path.{◌≡◌}
use mathlib.Core.Logic.{◌≢◌}
use mathlib.Core.Bool.{Bool, true, false, ◌&&◌, and-eq-true_iff, and-false}

pub true_not_false : true ≢ false
true_not_false e = let z : ◌≡◌ {A = ℕ} 0 1 = cc in omega arith

pub and_left : (a b : Bool) → a && b ≡ true → a ≡ true
and_left a b e = ((and-eq-true_iff a b).0 e).0

pub and_right : (a b : Bool) → a && b ≡ true → b ≡ true
and_right a b e = ((and-eq-true_iff a b).0 e).1

pub and_both : {a b : Bool} → a ≡ true → b ≡ true → (a && b) ≡ true
and_both p q = rw (p, q)

pub first_false : (a b c : Bool) → a ≡ false → (a && b && c) ≡ false
first_false a b c e = simp e

pub mid_false : (a b c : Bool) → b ≡ false → (a && b && c) ≡ false
mid_false a b c e = simp (e, and-false)

pub both_true : (a b c : Bool) → a ≡ true → b ≡ true → (a && b && c) ≡ c
both_true a b c e f = simp (e, f)
