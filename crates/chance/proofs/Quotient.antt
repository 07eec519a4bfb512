-- The fraction law: a whole number of at most 53 binary digits, divided by 2 ^ k as floats, is exactly x / 2 ^ k. The smallest
-- positive float is 2 ^ -1074: the quotient is x * 2 ^ (1074 - k) of those, and x has no more digits than the format keeps.
-- Assumes nothing.
use mathlib.Core.Path.{◌≡◌, sym, ap, ◌∙◌}
use mathlib.Core.Bool.{true, false, true≢false}
use Prim.Native.Nat.{ℕ, suc, ◌+◌, ◌-◌, ◌*◌, ◌^◌, ◌≤◌, ◌<◌}
use native.Mathlib.Nat.{le_of_lt, lt_of_lt_of_le, mul-pos, one-mul, mul_comm, mul_assoc}
use native.Mathlib.Omega.{arith}
use lib.IntN.{pos}
use lib.Pow.{pow-add, pow_pos, pow_mono, shl_lt}
use lib.Ieee.{Float, nan, inf, fin, Format, binary64, prec, emax, low, up, down, round, div, of_int}
use lib.Ieee.Fits.{down_pos, reach}
use lib.Ieee.Exact.{HasValue, round_exact}
use lib.Ieee.Back.{round_whole}
use lib.Ieee.Scale.{round_same}
use Rattle.chance.specs.Fraction.{quotient, Exactly}
use Rattle.chance.specs.Laws.{FractionLaw}

back : (k l : ℕ) → k ≤ l → l ≡ l - k + k
back k l h = omega arith

room : (p l e k : ℕ) → p ≤ e → p + (l - k) ≤ l + e
room p l e k h = omega arith

-- x / 2 ^ k needs no rounding
round_scaled : (f : Format) (x k : ℕ) → k ≤ low f → x < 2 ^ prec f → HasValue (round f false x (2 ^ k)) false x (2 ^ k)
round_scaled f x k K X =
    round_exact f false x (2 ^ k) x (low f - k) (pow_pos k) X
    (lt_of_lt_of_le (shl_lt (prec f) (low f - k) X) (pow_mono (room (prec f) (low f) (suc (emax f)) k (reach f))))
    (ap (λ (n : ℕ). x * 2 ^ n) (back k (low f) K) ∙ ap (λ (n : ℕ). x * n) (pow-add 2 (low f - k) k) ∙ sym (mul_assoc x (2 ^ (low f - k)) (2 ^ k)))

-- a float that is the whole number x, over the float 1 * 2 ^ k: what is rounded is x / 2 ^ k
div_at : (f : Format) (y : Float) (x k : ℕ) → HasValue y false x 1 → div f y (fin false 1 (pos k)) ≡ round f false x (2 ^ k)
unfolding div
div_at f nan x k v = elim v [ ]
div_at f (inf _) x k v = elim v [ ]
div_at f (fin true m e) x k v = absurd (true≢false v.0)
div_at f (fin false m e) x k v =
    round_same f false (m * up e * 1) (1 * 2 ^ k * down e) x (2 ^ k) (mul-pos (mul-pos (pow_pos 0) (pow_pos k)) (down_pos e)) (pow_pos k)
    (ap (λ (n : ℕ). n * 2 ^ k) v.1 ∙ simp (mul_assoc, mul_comm, one-mul))

-- a whole number as a float is that number
of_whole : (f : Format) (x : ℕ) → x ≤ 2 ^ prec f → HasValue (of_int f (pos x)) false x 1
unfolding of_int
of_whole f x h = round_whole f false x h

divided : (f : Format) (x k : ℕ) → k ≤ low f → x < 2 ^ prec f → HasValue (div f (of_int f (pos x)) (fin false 1 (pos k))) false x (2 ^ k)
divided f x k K X = rw (div_at f (of_int f (pos x)) x k (of_whole f x (le_of_lt X))) (round_scaled f x k K X)

-- the library's account of a float's value, and ours
exactly : (r : Float) (x k : ℕ) → HasValue r false x (2 ^ k) → Exactly r x k
unfolding Exactly
exactly nan x k h = elim h [ ]
exactly (inf _) x k h = elim h [ ]
exactly (fin s m e) x k h = h

pub fraction_law : FractionLaw
fraction_law k x K X = exactly (quotient x k) x k (divided binary64 x k K X)
