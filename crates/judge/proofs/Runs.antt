-- The units of a run of a list's classes. Assumes nothing.
use Prim.Native.Nat.{ℕ, zero, suc, ◌+◌, ◌-◌, ◌≤◌, ◌<◌}
use native.Mathlib.Omega.{arith}
use mathlib.Core.Path.{◌≡◌, ap, sym, ◌∙◌}
use mathlib.Core.Bool.{not}
use mathlib.Core.List.{List, [], ◌∷◌, ◌++◌}
use lib.ListN.{length, get_or, take, drop, length-drop, length-append}
use lib.Seq.{take-add, length-take-le}
use lib.Dec.{eqb}
use mir.Val.{bool_byte}
use borrow.Author.Tests.{ne_eqb}
use Rattle.plan.specs.declared.counts.Counts.{Counts}
use Rattle.plan.specs.Counts.{units, nongood, no_units, add_units, counts_after, counts, both}
use Rattle.plan.proofs.Promise.{counting}
use Rattle.judge.proofs.Along.{next_counts}

-- the classes of `&xs[i..j]`, as the borrow checker has them
abbrev pub run : List ℕ → ℕ → ℕ → List ℕ
run xs i j = take (j - i) (drop i xs)

-- ---- the counts of a list's first classes

module _ (xs : List ℕ) where
  pub units_to : (i : ℕ) → i ≤ length xs → units (counts (take i xs)) ≡ i
  units_to i l = counting.length_of (take i xs) ∙ length-take-le i xs l

  module _ (i j : ℕ) (l : i ≤ j) where
    -- from i classes on to j
    pub run_after : (b : Counts) → counts_after (counts_after b (take i xs)) (run xs i j) ≡ counts_after b (take j xs)
    run_after b =
        let k : i + (j - i) ≡ j = omega arith in
        sym (counting.after_append b (take i xs) (run xs i j)) ∙ ap (counts_after b) (sym (take-add i (j - i) xs) ∙ ap (λ (n : ℕ). take n xs) k)

    pub run_counts : (c d : Counts) → c ≡ counts (take i xs) → d ≡ counts_after c (run xs i j) → d ≡ counts (take j xs)
    run_counts c d e f =
        f ∙ ap (λ (b : Counts). counts_after b (run xs i j)) (e ∙ counting.counted (take i xs)) ∙ run_after no_units ∙ sym (counting.counted (take j xs))

    pub run_length : j ≤ length xs → length (run xs i j) ≡ j - i
    run_length k = length-take-le (j - i) (drop i xs) (omega (arith, length-drop i xs))

-- ---- counts by their nongood, bad and all units

pub same_counts : (c d : Counts) → nongood c ≡ nongood d → c.bad ≡ d.bad → units c ≡ units d → c ≡ d
same_counts c d n b u =
    let g : c.good ≡ d.good = omega arith in
    let m : c.marginal ≡ d.marginal = omega arith in
    fields g m b
  where
    fields : c.good ≡ d.good → c.marginal ≡ d.marginal → c.bad ≡ d.bad
        → ◌≡◌ {A = Counts} (record { good = c.good; marginal = c.marginal; bad = c.bad }) (record { good = d.good; marginal = d.marginal; bad = d.bad })
    fields g m b = rw (g, m, b)

-- the unit that a class adds
record OneMore (x : ℕ) (c : Counts) : Type 0 where
  nongood : nongood (add_units x 1 c) ≡ nongood c + bool_byte (not (eqb x 0))
  bad : (add_units x 1 c).bad ≡ c.bad + bool_byte (eqb x 2)

one_more : (x : ℕ) (c : Counts) → OneMore x c
one_more x c = go x
  where
    by : (y : ℕ) (d : Counts) → add_units y 1 c ≡ d → nongood d ≡ nongood c + bool_byte (not (eqb y 0)) → d.bad ≡ c.bad + bool_byte (eqb y 2) → OneMore y c
    by y d e n b = record { nongood = ap nongood e ∙ n; bad = ap (λ (f : Counts). f.bad) e ∙ b }

    go : (y : ℕ) → OneMore y c
    go zero = by 0 _ (counting.good 1 c) (omega arith) (omega arith)
    go (suc zero) = by 1 _ (counting.marginal 1 1 c (λ e. omega arith) (λ e. omega arith)) (omega arith) (omega arith)
    go (suc (suc zero)) = by 2 _ (counting.bad 1 c) (omega arith) (omega arith)
    go (suc (suc (suc y))) =
        by (suc (suc (suc y))) _ (counting.marginal (suc (suc (suc y))) 1 c (λ e. omega arith) (λ e. omega arith))
        (rw (ne_eqb (suc (suc (suc y))) 0 (λ e. omega arith)) (omega arith))
        (rw (ne_eqb (suc (suc (suc y))) 2 (λ e. omega arith)) (omega arith))

-- the class at i of a list
pub record Next (xs : List ℕ) (i : ℕ) : Type 0 where
  pub nongood : nongood (counts (take (i + 1) xs)) ≡ nongood (counts (take i xs)) + bool_byte (not (eqb (get_or xs i 0) 0))
  pub bad : (counts (take (i + 1) xs)).bad ≡ (counts (take i xs)).bad + bool_byte (eqb (get_or xs i 0) 2)
  pub units : units (counts (take (i + 1) xs)) ≡ i + 1

pub next_class : (xs : List ℕ) (i : ℕ) → i < length xs → Next xs i
next_class xs i h =
    let e = next_counts xs i h in
    let o = one_more (get_or xs i 0) (counts (take i xs)) in
    record { nongood = ap nongood e ∙ o.nongood; bad = ap (λ (d : Counts). d.bad) e ∙ o.bad; units = units_to xs (i + 1) (omega arith) }

-- the units of a run, by those of its classes alone
sums : (c : Counts) (xs : List ℕ)
    → (nongood (counts_after c xs) ≡ nongood c + nongood (counts_after no_units xs)) × ((counts_after c xs).bad ≡ c.bad + (counts_after no_units xs).bad)
sums c [] = rw (counting.after_none c, counting.after_none no_units) (omega arith)
sums c (x ∷ xs) =
    let a = sums (add_units x 1 c) xs in
    let b = sums (add_units x 1 no_units) xs in
    let d = one_more x c in
    let f = one_more x no_units in
    rw (counting.after_one c x xs, counting.after_one no_units x xs) (omega arith)

-- so parts may be counted apart
pub both_are : (c : Counts) (xs : List ℕ) → both c (counts xs) ≡ counts_after c xs
both_are c xs =
    let a = sums c xs in
    let b = (counting.after_more c xs).units in
    let d = (counting.after_more no_units xs).units in
    rw (counting.counted xs) (same_counts (both c (counts_after no_units xs)) (counts_after c xs) (omega arith) (omega arith) (omega arith))

-- the counts e with a part x of a run, of which `rest` is left
pub record PartCounted (c : Counts) (x rest : List ℕ) (t e : Counts) : Type 0 where
  pub few : units e + length rest ≤ 1000
  pub counted : counts_after e rest ≡ t

pub part_counted : (c : Counts) (left x rest : List ℕ) (t d e : Counts) → units c + length left ≤ 1000 → counts_after c left ≡ t → left ≡ x ++ rest
    → d ≡ counts x → e ≡ both c d → PartCounted c x rest t e
part_counted c left x rest t d e few counted parts p q =
    let e_is : e ≡ counts_after c x = q ∙ ap (both c) p ∙ both_are c x in
    let u = ap units e_is ∙ (counting.after_more c x).units in
    let n = ap length parts ∙ length-append x rest in
    record {
      few = omega arith;
      counted = ap (λ (b : Counts). counts_after b rest) e_is ∙ sym (counting.after_append c x rest) ∙ ap (counts_after c) (sym parts) ∙ counted;
    }
