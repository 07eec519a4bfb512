-- Counts: what more units add, and the counts of a list.
-- Assumes nothing.
use Prim.Native.Nat.{ℕ, zero, suc, ◌+◌, ◌-◌, ◌≤◌}
use mathlib.Core.Path.{◌≡◌, refl, sym, ap, ◌∙◌}
use mathlib.Core.Logic.{◌≢◌}
use mathlib.Core.List.{List, [], ◌∷◌, ◌++◌}
use native.Mathlib.Nat.{add-zero}
use native.Mathlib.Omega.{arith}
use lib.ListN.{length, take, drop, replicate, take-append-drop, length-drop}
use lib.Seq.{length-take-le, take-take}
use Rattle.plan.specs.declared.counts.Counts.{Counts}
use Rattle.plan.specs.Counts.{units, no_units, add_units, counts_after, counts}
use Rattle.plan.specs.Promise.{More}

-- ---- units of one class

pub add_good : (n : ℕ) (c : Counts) → add_units 0 n c ≡ record { good = c.good + n; marginal = c.marginal; bad = c.bad }
unfolding add_units
add_good n c = refl

pub add_bad : (n : ℕ) (c : Counts) → add_units 2 n c ≡ record { good = c.good; marginal = c.marginal; bad = c.bad + n }
unfolding add_units
add_bad n c = refl

pub add_marginal : (x n : ℕ) (c : Counts) → x ≢ 0 → x ≢ 2 → add_units x n c ≡ record { good = c.good; marginal = c.marginal + n; bad = c.bad }
unfolding add_units
add_marginal zero n c f g = absurd (f refl)
add_marginal (suc zero) n c f g = refl
add_marginal (suc (suc zero)) n c f g = absurd (g refl)
add_marginal (suc (suc (suc x))) n c f g = refl

pub added : (x n : ℕ) (c : Counts) → More n c (add_units x n c)
unfolding add_units
added zero n c = omega arith
added (suc zero) n c = omega arith
added (suc (suc zero)) n c = omega arith
added (suc (suc (suc x))) n c = omega arith

-- ---- the counts of a list

pub more : (c : Counts) (xs : List ℕ) → More (length xs) c (counts_after c xs)
unfolding counts_after
more c [] = omega arith
more c (x ∷ xs) = let a = added x 1 c in let b = more (add_units x 1 c) xs in omega arith

pub units_counts : (h : List ℕ) → units (counts h) ≡ length h
unfolding counts
units_counts h = omega (arith, more no_units h)

pub after_append : (c : Counts) (h r : List ℕ) → counts_after c (h ++ r) ≡ counts_after (counts_after c h) r
unfolding counts_after
after_append c [] r = refl
after_append c (x ∷ h) r = after_append (add_units x 1 c) h r

pub counts_append : (h r : List ℕ) → counts (h ++ r) ≡ counts_after (counts h) r
unfolding counts
counts_append h r = after_append no_units h r

-- from the first y units of a list to the first z
pub more_taken : (x : List ℕ) (y z : ℕ) → y ≤ z → z ≤ length x → More (z - y) (counts (take y x)) (counts (take z x))
more_taken x y z l w =
    let n : length (drop y (take z x)) ≡ z - y = omega (arith, length-drop y (take z x), length-take-le z x w) in
    let split : counts (take z x) ≡ counts_after (counts (take y x)) (drop y (take z x))
    = ap counts (sym (take-append-drop y (take z x))) ∙ ap (λ (r : List ℕ). counts (r ++ drop y (take z x))) (take-take y z x l)
    ∙ counts_append (take y x) (drop y (take z x)) in
    rw (split, ← n) (more (counts (take y x)) (drop y (take z x)))

pub units_taken : (x : List ℕ) (y : ℕ) → y ≤ length x → units (counts (take y x)) ≡ y
units_taken x y l = units_counts (take y x) ∙ length-take-le y x l

-- n units of one class, one by one
pub add_none : (x : ℕ) (c : Counts) → c ≡ add_units x 0 c
unfolding add_units
add_none zero c = λ i. record { good = sym (add-zero c.good) i; marginal = c.marginal; bad = c.bad }
add_none (suc zero) c = λ i. record { good = c.good; marginal = sym (add-zero c.marginal) i; bad = c.bad }
add_none (suc (suc zero)) c = λ i. record { good = c.good; marginal = c.marginal; bad = sym (add-zero c.bad) i }
add_none (suc (suc (suc x))) c = λ i. record { good = c.good; marginal = sym (add-zero c.marginal) i; bad = c.bad }

one_first : (m n : ℕ) → m + 1 + n ≡ m + suc n
one_first m n = omega arith

pub add_one_first : (x n : ℕ) (c : Counts) → add_units x n (add_units x 1 c) ≡ add_units x (suc n) c
unfolding add_units
add_one_first zero n c = λ i. record { good = one_first c.good n i; marginal = c.marginal; bad = c.bad }
add_one_first (suc zero) n c = λ i. record { good = c.good; marginal = one_first c.marginal n i; bad = c.bad }
add_one_first (suc (suc zero)) n c = λ i. record { good = c.good; marginal = c.marginal; bad = one_first c.bad n i }
add_one_first (suc (suc (suc x))) n c = λ i. record { good = c.good; marginal = one_first c.marginal n i; bad = c.bad }

pub after_replicate : (x n : ℕ) (c : Counts) → counts_after c (replicate n x) ≡ add_units x n c
unfolding counts_after
after_replicate x zero c = add_none x c
after_replicate x (suc n) c = after_replicate x n (add_units x 1 c) ∙ add_one_first x n c
