-- Blank units, of class 3. Document 02, change 4: a blank is marginal in every test, event, estimate, chance and total. Look alone
-- tells blanks from other marginal units.
use Rattle.std.specs.Prelude.{ℕ, ◌+◌, ◌≤◌, ◌≡◌, cond, List, [], ◌∷◌, ◌++◌, leb, eqb}
use Rattle.plan.specs.declared.counts.Counts.{Counts}
use Rattle.plan.specs.Counts.{add_units, counts}
use Rattle.plan.specs.Sample.{highest_class}

abbrev pub blank : ℕ
blank = 3

-- a blank is one blank, every other unit none
abbrev pub one_blank : ℕ → ℕ
one_blank x = cond (eqb x blank) 1 0

-- how many of these classes are blank
unfoldable pub blanks : List ℕ → ℕ
blanks [] = 0
blanks (x ∷ xs) = one_blank x + blanks xs

-- a blank made marginal
abbrev pub as_marginal : ℕ → ℕ
as_marginal x = cond (eqb x blank) 1 x

-- these classes, with every blank made marginal
unfoldable pub blanks_as_marginal : List ℕ → List ℕ
blanks_as_marginal [] = []
blanks_as_marginal (x ∷ xs) = as_marginal x ∷ blanks_as_marginal xs

-- what the layers above use: proved in proofs/Blanks.antt
pub record BlankLaws : Type 0 where
  pub none : blanks [] ≡ 0
  pub one_more : (h : List ℕ) (x : ℕ) → blanks (h ++ (x ∷ [])) ≡ blanks h + one_blank x
  -- blanks are within the marginal units
  pub within : (h : List ℕ) → blanks h ≤ (counts h).marginal
  pub none_as_marginal : blanks_as_marginal [] ≡ []
  pub more_as_marginal : (x : ℕ) (xs : List ℕ) → blanks_as_marginal (x ∷ xs) ≡ as_marginal x ∷ blanks_as_marginal xs
  -- a blank is a class, and counts as the marginal unit does
  pub tested_alike : (x : ℕ) → leb (as_marginal x) highest_class ≡ leb x highest_class
  pub added_alike : (x n : ℕ) (c : Counts) → add_units (as_marginal x) n c ≡ add_units x n c
  pub counted_alike : (h : List ℕ) → counts (blanks_as_marginal h) ≡ counts h
