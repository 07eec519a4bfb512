-- Division by multiplication with a reciprocal that is rounded up. Assumes nothing.
use Prim.Native.Nat.{ℕ, zero, suc, ◌+◌, ◌*◌, ◌/◌, ◌%◌, ◌≤◌, ◌<◌}
use mathlib.Core.Path.{◌≡◌, sym, ap, ◌∙◌}
use native.Mathlib.Nat.{add-mul, mul-add, mul_assoc, mul_right_comm, mul-le-mul_left, mul-le-mul_right, le_of_mul-le-mul_right, lt_of_mul-lt-mul_right, div-eq_of_lt-le, div-mul-le_self, lt-div-mul-add, div-add-mod', mul-add-div_right, div-div-eq-div-mul, mod-lt, mul-zero, mul-div-mul_right}
use native.Mathlib.Omega.{arith}
use Rattle.chance.specs.declared.division.Reciprocal.{Reciprocal}
use Rattle.chance.specs.Division.{Exact}

-- ---- the reciprocal

of_sum : (h a b y : ℕ) → (a * h + b) * y ≡ a * y * h + b * y
of_sum h a b y = add-mul (a * h) b y ∙ ap (λ (k : ℕ). k + b * y) (mul_right_comm a h y)

two_steps : (a v h : ℕ) → 0 < v → a / v * h + a % v * h / v ≡ a * h / v
two_steps a v h some =
    sym (ap (λ (n : ℕ). n / v) (ap (λ (k : ℕ). k * h) (sym (div-add-mod' a v)) ∙ of_sum v (a / v) (a % v) h) ∙ mul-add-div_right some (a / v * h) (a % v * h))

-- 2^83 by v, in two steps of words
pub record Steps (v : ℕ) : Type 0 where
  pub whole : 2251799813685248 / v * 4294967296 + 2251799813685248 % v * 4294967296 / v ≡ 9671406556917033397649408 / v
  pub fits : 9671406556917033397649408 / v ≤ 18446744073709551614
  pub rest : 2251799813685248 % v < v

pub steps : (v : ℕ) → 524288 < v → Steps v
steps v h =
    let q : ℕ = 9671406556917033397649408 / v in
    record {
      whole = two_steps 2251799813685248 v 4294967296 (omega arith);
      fits = omega (arith, div-mul-le_self 9671406556917033397649408 v, mul-le-mul_left q h);
      rest = mod-lt 2251799813685248 (omega arith);
    }

pub exact : (by scale inverse : ℕ) → 0 < by * scale → by * scale ≤ 1048576 → inverse ≡ 9671406556917033397649408 / (by * scale) + 1 → Exact by scale inverse
exact by scale inverse some few e =
    let v : ℕ = by * scale in
    let q : ℕ = 9671406556917033397649408 / v in
    let sum = ap (λ (k : ℕ). k * v) e ∙ add-mul q 1 v in
    record {
      some = some;
      few = few;
      above = omega (arith, sum, lt-div-mul-add {a = 9671406556917033397649408} {b = v} some);
      below = omega (arith, sum, div-mul-le_self 9671406556917033397649408 v);
    }

-- the quotient by it is exact: what it is too large by does not reach the next whole number
by_inverse : (n inverse v p : ℕ) → n * v < p → 0 < v → p ≤ inverse * v → inverse * v ≤ p + v → n * inverse / p ≡ n / v
by_inverse n inverse v p small some above below =
    let q : ℕ = n / v in
    let whole = mul_assoc n inverse v in
    let floor = mul-le-mul_right p (div-mul-le_self n v) in
    let next : n + 1 ≤ (q + 1) * v = omega (arith, add-mul q 1 v, lt-div-mul-add {a = n} {b = v} some) in
    let ceiling = mul-le-mul_right p next in
    div-eq_of_lt-le {k = q} p {m = n * inverse}
    (le_of_mul-le-mul_right {k = v} (omega (arith, whole, mul-le-mul_left n above, mul_right_comm q p v, floor)) some)
    (lt_of_mul-lt-mul_right v (omega (arith, whole, mul-le-mul_left n below, mul-add n p v, mul_right_comm (q + 1) p v, add-mul n 1 p, ceiling)))

pub exactly : (n : ℕ) (d : Reciprocal) → n < 9223372036854775808 → n * d.inverse / 18446744073709551616 / 524288 ≡ n / (d.by * d.scale)
exactly n d small =
    let e = d.exact in
    div-div-eq-div-mul (n * d.inverse) 18446744073709551616 524288
    ∙ by_inverse n d.inverse (d.by * d.scale) 9671406556917033397649408 (omega (arith, mul-le-mul_left n e.few)) e.some e.above e.below

-- ---- by the number that is scaled

pos_right : (a b : ℕ) → 0 < a * b → 0 < b
pos_right a zero h = omega (arith, mul-zero a)
pos_right a (suc b) h = omega arith

module _ (n : ℕ) (d : Reciprocal) where
  pub scaled : n * d.scale / (d.by * d.scale) ≡ n / d.by
  scaled = mul-div-mul_right n d.by (pos_right d.by d.scale d.exact.some)

  pub scaled_fits : (m : ℕ) → n ≤ d.by * m → n * d.scale ≤ 1048576 * m
  scaled_fits m h = omega (arith, mul-le-mul_right d.scale h, mul_right_comm d.by m d.scale, mul-le-mul_right m d.exact.few)
