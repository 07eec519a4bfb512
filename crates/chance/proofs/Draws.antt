-- Ordered draws from a lot: how many there are, and by the classes drawn.
-- Assumes nothing.
use Prim.Native.Nat.{ℕ, zero, suc, ◌+◌, ◌-◌, ◌*◌, ◌≤◌}
use mathlib.Core.Path.{◌≡◌, refl, sym, ap, ◌∙◌}
use mathlib.Core.Bool.{cond}
use mathlib.Core.List.{List, [], ◌∷◌, ◌++◌}
use lib.ListN.{length, length-append, replicate}
use lib.Dec.{eqb}
use native.Mathlib.Nat.{add-mul, suc-mul, mul-one, mul_left_comm, zero-mul}
use native.Mathlib.Omega.{arith}
use Rattle.plan.specs.declared.counts.Counts.{Counts}
use Rattle.plan.specs.Counts.{no_units, add_units}
use Rattle.plan.proofs.Promise.{counting}
use Rattle.chance.specs.declared.mean.Weights.{Weights}
use Rattle.chance.specs.Bounds.{weight, weight_sum, weighted_sum, sum_over, weight_product}
use Rattle.chance.specs.Chance.{left_of}
use Rattle.chance.specs.Lot.{Lot, unit_sum, draw_sum, units_of, numbers}
use Rattle.chance.specs.LotLaws.{falling, DrawsLaw, NumbersLaw}
use Rattle.chance.proofs.Sums.{sum_same, sum_scaled}

-- ---- how many ordered draws there are

-- a value that depends on the number of the other units alone
same_for_each : (f : ℕ → List ℕ → ℕ) (n value : ℕ) → ((x : ℕ) (others : List ℕ) → length others + 1 ≡ n → f x others ≡ value)
    → (passed rest : List ℕ) → length passed + length rest ≡ n → unit_sum f passed rest ≡ length rest * value
same_for_each f n value h passed [] e = sym (zero-mul value)
same_for_each f n value h passed (x ∷ rest) e =
    let one = h x (passed ++ rest) (omega (arith, length-append passed rest)) in
    let more = same_for_each f n value h (x ∷ passed) rest (omega arith) in
    omega (arith, one, more, suc-mul (length rest) value)

pub counted : (n : ℕ) (lot : List ℕ) → draw_sum n (λ x. 1) lot ≡ falling (length lot) n
counted zero lot = refl
counted (suc n) lot =
    same_for_each _ (length lot) (falling (length lot - 1) n)
    (λ x others e. counted n others ∙ ap (λ (k : ℕ). falling k n) (omega arith)) [] lot (omega arith)

-- ---- by the classes drawn

lot_append : (a b : List ℕ) → Lot a → Lot b → Lot (a ++ b)
lot_append [] b k l = l
lot_append (x ∷ a) b k l = (k.0, lot_append a b k.1 l)

units_append : (y : ℕ) (a b : List ℕ) → units_of y (a ++ b) ≡ units_of y a + units_of y b
units_append y [] b = omega arith
units_append y (x ∷ a) b = omega (arith, units_append y a b)

-- one unit more, of the class x
units_moved : (y x : ℕ) (a b : List ℕ) → units_of y (a ++ (x ∷ b)) ≡ units_of y (a ++ b) + cond (eqb x y) 1 0
units_moved y x a b = omega (arith, units_append y a (x ∷ b), units_append y a b)

weighted_more : (k : ℕ → ℕ) (x : ℕ) (rest : List ℕ) → x ≤ 2 → weighted_sum (numbers (x ∷ rest)) k ≡ k x + weighted_sum (numbers rest) k
weighted_more k zero rest l = simp add-mul (omega arith)
weighted_more k (suc zero) rest l = simp add-mul (omega arith)
weighted_more k (suc (suc zero)) rest l = simp add-mul (omega arith)
weighted_more k (suc (suc (suc x))) rest l = absurd (omega arith)

-- a lot without one unit of the class x
record Without (lot : List ℕ) (x : ℕ) (others : List ℕ) : Type 0 where
  units : Lot others
  less : (y : ℕ) → units_of y lot ≡ units_of y others + cond (eqb x y) 1 0

-- a value that depends on the class alone
by_class : (f : ℕ → List ℕ → ℕ) (k : ℕ → ℕ) (lot : List ℕ) → ((x : ℕ) (others : List ℕ) → x ≤ 2 → Without lot x others → f x others ≡ k x)
    → (passed rest : List ℕ) → Lot passed → Lot rest → ((y : ℕ) → units_of y lot ≡ units_of y (passed ++ rest))
    → unit_sum f passed rest ≡ weighted_sum (numbers rest) k
by_class f k lot h passed [] p r e = omega (arith, zero-mul (k 0), zero-mul (k 1), zero-mul (k 2))
by_class f k lot h passed (x ∷ rest) p r e =
    let one = h x (passed ++ rest) r.0 (record { units = lot_append passed rest p r.1; less = λ y. e y ∙ units_moved y x passed rest }) in
    let more = by_class f k lot h (x ∷ passed) rest (r.0, p) r.1 (λ y. e y ∙ units_moved y x passed rest) in
    omega (arith, one, more, weighted_more k x rest r.0)

same : (u v : Weights) → u.good ≡ v.good → u.marginal ≡ v.marginal → u.bad ≡ v.bad → u ≡ v
same u v g m b = λ i. record { good = g i; marginal = m i; bad = b i }

-- what is left after a unit of the class x
left_less : (w : Weights) (c : Counts) (lot : List ℕ) → numbers lot ≡ left_of w c → (x : ℕ) (others : List ℕ) → x ≤ 2 → Without lot x others
    → numbers others ≡ left_of w (add_units x 1 c)
left_less w c lot e x others l o =
    let g : units_of 0 lot ≡ w.good - c.good = ap (λ (u : Weights). u.good) e in
    let m : units_of 1 lot ≡ w.marginal - c.marginal = ap (λ (u : Weights). u.marginal) e in
    let b : units_of 2 lot ≡ w.bad - c.bad = ap (λ (u : Weights). u.bad) e in
    go x l o.less g m b
  where
    go : (z : ℕ) → z ≤ 2 → ((y : ℕ) → units_of y lot ≡ units_of y others + cond (eqb z y) 1 0)
        → units_of 0 lot ≡ w.good - c.good → units_of 1 lot ≡ w.marginal - c.marginal → units_of 2 lot ≡ w.bad - c.bad
        → numbers others ≡ left_of w (add_units z 1 c)
    go zero k less g m b = rw (counting.good 1 c) (same _ _ (omega (arith, less 0)) (omega (arith, less 1)) (omega (arith, less 2)))
    go (suc zero) k less g m b =
        rw (counting.marginal 1 1 c (λ (z : ◌≡◌ {A = ℕ} 1 0). omega arith) (λ (z : ◌≡◌ {A = ℕ} 1 2). omega arith))
        (same _ _ (omega (arith, less 0)) (omega (arith, less 1)) (omega (arith, less 2)))
    go (suc (suc zero)) k less g m b = rw (counting.bad 1 c) (same _ _ (omega (arith, less 0)) (omega (arith, less 1)) (omega (arith, less 2)))
    go (suc (suc (suc z))) k less g m b = absurd (omega arith)

module _ (w : Weights) where
  -- the sum over sequences, by the first class
  by_first : (n : ℕ) (f : List ℕ → ℕ) (c : Counts)
      → sum_over (suc n) (λ x. f x * weight_product (left_of w) c x)
      ≡ weighted_sum (left_of w c) (λ k. sum_over n (λ x. f (k ∷ x) * weight_product (left_of w) (add_units k 1 c) x))
  by_first n f c = omega (arith, part 0, part 1, part 2)
    where
      part : (k : ℕ) → sum_over n (λ x. f (k ∷ x) * weight_product (left_of w) c (k ∷ x))
          ≡ weight k (left_of w c) * sum_over n (λ x. f (k ∷ x) * weight_product (left_of w) (add_units k 1 c) x)
      part k =
          sum_same n (λ x. f (k ∷ x) * weight_product (left_of w) c (k ∷ x))
          (λ x. weight k (left_of w c) * (f (k ∷ x) * weight_product (left_of w) (add_units k 1 c) x))
          (λ x e cs. mul_left_comm (f (k ∷ x)) (weight k (left_of w c)) (weight_product (left_of w) (add_units k 1 c) x))
          ∙ sum_scaled n (weight k (left_of w c)) (λ x. f (k ∷ x) * weight_product (left_of w) (add_units k 1 c) x)

  weighed_after : (n : ℕ) (f : List ℕ → ℕ) (c : Counts) (lot : List ℕ) → Lot lot → numbers lot ≡ left_of w c
      → draw_sum n f lot ≡ sum_over n (λ x. f x * weight_product (left_of w) c x)
  weighed_after zero f c lot cs e = sym (mul-one (f []))
  weighed_after (suc n) f c lot cs e =
      let k : ℕ → ℕ = λ x. sum_over n (λ xs. f (x ∷ xs) * weight_product (left_of w) (add_units x 1 c) xs) in
      by_class (λ x others. draw_sum n (λ xs. f (x ∷ xs)) others) k lot
      (λ x others l o. weighed_after n (λ xs. f (x ∷ xs)) (add_units x 1 c) others o.units (left_less w c lot e x others l o))
      [] lot tt cs (λ y. refl)
      ∙ ap (λ (u : Weights). weighted_sum u k) e ∙ sym (by_first n f c)

pub weighed : (n : ℕ) (f : List ℕ → ℕ) (lot : List ℕ) → Lot lot
    → draw_sum n f lot ≡ sum_over n (λ x. f x * weight_product (left_of (numbers lot)) no_units x)
weighed n f lot cs = weighed_after (numbers lot) n f no_units lot cs (same _ _ (omega arith) (omega arith) (omega arith))

pub draws_law : DrawsLaw
draws_law lot n cs = record {
  counted = counted n lot;
  weighed = λ f. weighed n f lot cs;
  added = sum_same n _ _ (λ x e c. omega arith) ∙ sym (weighed n (λ x. 1) lot cs) ∙ counted n lot;
}

-- ---- a lot's units are as many as its numbers say

pub length_is : (lot : List ℕ) → Lot lot → weight_sum (numbers lot) ≡ length lot
length_is [] cs = refl
length_is (x ∷ rest) cs = go x cs.0 (length_is rest cs.1)
  where
    go : (z : ℕ) → z ≤ 2 → weight_sum (numbers rest) ≡ length rest → weight_sum (numbers (z ∷ rest)) ≡ suc (length rest)
    go zero l e = omega arith
    go (suc zero) l e = omega arith
    go (suc (suc zero)) l e = omega arith
    go (suc (suc (suc z))) l e = absurd (omega arith)

-- ---- a lot with any numbers

-- n units of the class x before others
module _ (x : ℕ) (rest : List ℕ) where
  lot_before : (n : ℕ) → x ≤ 2 → Lot rest → Lot (replicate n x ++ rest)
  lot_before zero l k = k
  lot_before (suc n) l k = (l, lot_before n l k)

  units_before : (y n : ℕ) → units_of y (replicate n x ++ rest) ≡ units_of y rest + n * cond (eqb x y) 1 0
  units_before y zero = omega (arith, zero-mul (cond (eqb x y) 1 0))
  units_before y (suc n) = omega (arith, units_before y n, suc-mul n (cond (eqb x y) 1 0))

pub numbers_law : NumbersLaw
numbers_law w = (replicate w.good 0 ++ nongoods, lot, same _ _ (omega (arith, numbered 0)) (omega (arith, numbered 1)) (omega (arith, numbered 2)))
  where
    bads : List ℕ
    bads = replicate w.bad 2 ++ []

    nongoods : List ℕ
    nongoods = replicate w.marginal 1 ++ bads

    lot : Lot (replicate w.good 0 ++ nongoods)
    lot =
        lot_before 0 nongoods w.good (omega arith) (lot_before 1 bads w.marginal (omega arith) (lot_before 2 [] w.bad (omega arith) tt))

    numbered : (y : ℕ) → units_of y (replicate w.good 0 ++ nongoods)
        ≡ w.bad * cond (eqb 2 y) 1 0 + w.marginal * cond (eqb 1 y) 1 0 + w.good * cond (eqb 0 y) 1 0
    numbered y = omega (arith, units_before 0 nongoods y w.good, units_before 1 bads y w.marginal, units_before 2 [] y w.bad)
