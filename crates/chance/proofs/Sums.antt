-- Sums over sequences of classes, for steps with any weights: what the values of the sequences add up to, by the next unit.
-- Assumes nothing.
use Prim.Native.Nat.{ℕ, zero, suc, ◌+◌, ◌*◌, ◌≤◌}
use mathlib.Core.Path.{◌≡◌, refl, ap, ap₂, ◌∙◌}
use mathlib.Core.List.{List, [], ◌∷◌}
use lib.ListN.{length}
use native.Mathlib.Nat.{add-mul, mul-add, mul_left_comm}
use native.Mathlib.Omega.{arith}
use Rattle.plan.specs.declared.counts.Counts.{Counts}
use Rattle.plan.specs.declared.stage.Answer.TheVariants.{GoOn, Accept, Reject}
use Rattle.plan.specs.Counts.{add_units}
use Rattle.plan.specs.Sample.{Classes}
use Rattle.plan.proofs.Sample.{classing}
use Rattle.chance.specs.Bounds.{weight, weighted_sum, Valuation, sum_over, weight_product, sequence_value, value_sum}

pub sum_same : (n : ℕ) (f g : List ℕ → ℕ) → ((x : List ℕ) → length x ≡ n → Classes x → f x ≡ g x) → sum_over n f ≡ sum_over n g
sum_same zero f g h = h [] refl classing.none
sum_same (suc n) f g h =
    let part : (k : ℕ) → k ≤ 2 → sum_over n (λ x. f (k ∷ x)) ≡ sum_over n (λ x. g (k ∷ x)) =
    λ k l. sum_same n (λ x. f (k ∷ x)) (λ x. g (k ∷ x)) (λ x e cs. h (k ∷ x) (ap suc e) (classing.more k x (omega arith) cs)) in
    omega (arith, part 0 (omega arith), part 1 (omega arith), part 2 (omega arith))

pub sum_scaled : (n k : ℕ) (f : List ℕ → ℕ) → sum_over n (λ x. k * f x) ≡ k * sum_over n f
sum_scaled zero k f = refl
sum_scaled (suc n) k f =
    simp mul-add (omega (arith, sum_scaled n k (λ x. f (0 ∷ x)), sum_scaled n k (λ x. f (1 ∷ x)), sum_scaled n k (λ x. f (2 ∷ x))))

sum_added : (n : ℕ) (f g : List ℕ → ℕ) → sum_over n (λ x. f x + g x) ≡ sum_over n f + sum_over n g
sum_added zero f g = refl
sum_added (suc n) f g =
    omega (arith, sum_added n (λ x. f (0 ∷ x)) (λ x. g (0 ∷ x)), sum_added n (λ x. f (1 ∷ x)) (λ x. g (1 ∷ x)), sum_added n (λ x. f (2 ∷ x)) (λ x. g (2 ∷ x)))

-- ---- the value of a sequence

pub value_accepted : (v : Valuation) (c : Counts) (x : List ℕ) → v.decision c ≡ Accept → sequence_value v c x ≡ v.accepted
value_accepted v c [] e = rw e
value_accepted v c (x ∷ xs) e = rw e

pub value_rejected : (v : Valuation) (c : Counts) (x : List ℕ) → v.decision c ≡ Reject → sequence_value v c x ≡ v.rejected
value_rejected v c [] e = rw e
value_rejected v c (x ∷ xs) e = rw e

-- ---- the sum of the values

-- a common value
pub sum_constant : (v : Valuation) (n value : ℕ) (c : Counts) → ((x : List ℕ) → sequence_value v c x ≡ value)
    → value_sum v n c ≡ value * sum_over n (weight_product v.weights c)
sum_constant v n value c h =
    sum_same n (λ x. sequence_value v c x * weight_product v.weights c x) (λ x. value * weight_product v.weights c x)
    (λ x e cs. ap (λ (k : ℕ). k * weight_product v.weights c x) (h x))
    ∙ sum_scaled n value (weight_product v.weights c)

-- a unit more, where inspection goes on
pub sum_further : (v : Valuation) (n : ℕ) (c : Counts) → v.decision c ≡ GoOn
    → value_sum v (suc n) c ≡ v.cost * sum_over (suc n) (weight_product v.weights c) + weighted_sum (v.weights c) (λ x. value_sum v n (add_units x 1 c))
sum_further v n c e = simp mul-add (omega (arith, part 0, part 1, part 2))
  where
    product : ℕ → List ℕ → ℕ
    product k z = weight_product v.weights c (k ∷ z)

    rest : ℕ → List ℕ → ℕ
    rest k z = sequence_value v (add_units k 1 c) z * weight_product v.weights (add_units k 1 c) z

    part : (k : ℕ) → sum_over n (λ z. sequence_value v c (k ∷ z) * product k z) ≡
        v.cost * sum_over n (product k) + weight k (v.weights c) * value_sum v n (add_units k 1 c)
    part k =
        sum_same n (λ z. sequence_value v c (k ∷ z) * product k z) (λ z. v.cost * product k z + weight k (v.weights c) * rest k z)
        (λ z l cs. rw e (simp (add-mul, mul_left_comm (weight k (v.weights c)) (sequence_value v (add_units k 1 c) z) (weight_product v.weights (add_units k 1 c) z))))
        ∙ sum_added n (λ z. v.cost * product k z) (λ z. weight k (v.weights c) * rest k z)
        ∙ ap₂ ◌+◌ (sum_scaled n v.cost (product k)) (sum_scaled n (weight k (v.weights c)) (rest k))
