-- Blanks: how many there are, and that they count as marginal units. Assumes nothing.
use Prim.Native.Nat.{ℕ, zero, suc, ◌+◌, ◌≤◌}
use mathlib.Core.Path.{◌≡◌, refl, ap, ◌∙◌}
use mathlib.Core.Bool.{Bool, true, false, cond}
use mathlib.Core.List.{List, [], ◌∷◌, ◌++◌}
use native.Mathlib.Omega.{arith}
use lib.Dec.{leb, eqb}
use borrow.Author.Tests.{eqb-true}
use Rattle.plan.specs.declared.counts.Counts.{Counts}
use Rattle.plan.specs.Counts.{no_units, add_units, counts_after, counts}
use Rattle.plan.specs.Sample.{highest_class}
use Rattle.plan.specs.Blanks.{blank, one_blank, blanks, as_marginal, blanks_as_marginal, BlankLaws}

one_more : (h : List ℕ) (x : ℕ) → blanks (h ++ (x ∷ [])) ≡ blanks h + one_blank x
unfolding blanks
one_more [] x = omega arith
one_more (y ∷ h) x = omega (arith, one_more h x)

-- ---- blanks are within the marginal units

blank_added : (x : ℕ) (c : Counts) → c.marginal + one_blank x ≤ (add_units x 1 c).marginal
unfolding add_units
blank_added zero c = omega arith
blank_added (suc zero) c = omega arith
blank_added (suc (suc zero)) c = omega arith
blank_added (suc (suc (suc x))) c = at_most_one (eqb (suc (suc (suc x))) blank)
  where
    at_most_one : (b : Bool) → c.marginal + cond b 1 0 ≤ c.marginal + 1
    at_most_one true = omega arith
    at_most_one false = omega arith

blanks_after : (c : Counts) (h : List ℕ) → c.marginal + blanks h ≤ (counts_after c h).marginal
unfolding blanks counts_after
blanks_after c [] = omega arith
blanks_after c (x ∷ h) = omega (arith, blank_added x c, blanks_after (add_units x 1 c) h)

within : (h : List ℕ) → blanks h ≤ (counts h).marginal
unfolding counts
within h = omega (arith, blanks_after no_units h)

-- ---- a blank made marginal

tested_alike : (x : ℕ) → leb (as_marginal x) highest_class ≡ leb x highest_class
tested_alike x = go (eqb x blank) refl
  where
    go : (b : Bool) → eqb x blank ≡ b → leb (cond b 1 x) highest_class ≡ leb x highest_class
    go true e = rw (eqb-true x blank e)
    go false e = refl

added_alike : (x n : ℕ) (c : Counts) → add_units (as_marginal x) n c ≡ add_units x n c
unfolding add_units
added_alike x n c = go (eqb x blank) refl
  where
    go : (b : Bool) → eqb x blank ≡ b → add_units (cond b 1 x) n c ≡ add_units x n c
    go true e = rw (eqb-true x blank e)
    go false e = refl

after_alike : (c : Counts) (h : List ℕ) → counts_after c (blanks_as_marginal h) ≡ counts_after c h
unfolding counts_after blanks_as_marginal
after_alike c [] = refl
after_alike c (x ∷ h) = ap (λ (d : Counts). counts_after d (blanks_as_marginal h)) (added_alike x 1 c) ∙ after_alike (add_units x 1 c) h

counted_alike : (h : List ℕ) → counts (blanks_as_marginal h) ≡ counts h
unfolding counts
counted_alike h = after_alike no_units h

pub blank_laws : BlankLaws
unfolding blanks blanks_as_marginal
blank_laws = record {
  none = refl;
  one_more = one_more;
  within = within;
  none_as_marginal = refl;
  more_as_marginal = λ x xs. refl;
  tested_alike = tested_alike;
  added_alike = added_alike;
  counted_alike = counted_alike;
}
