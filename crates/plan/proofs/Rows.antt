-- `numbered_rules`, row by row, is what the code tests stage by stage. Assumes nothing.
use Prim.Native.Nat.{ℕ, ◌+◌}
use native.Mathlib.Nat.{add_assoc, add-zero}
use mathlib.Core.Path.{◌≡◌, refl, sym}
use mathlib.Core.Bool.{Bool, true, false, cond, ◌&&◌, and-false, and-true}
use mathlib.Core.List.{List, [], ◌∷◌}
use lib.Dec.{leb, ltb}
use Rattle.plan.specs.declared.stage.Stage.{Stage}
use Rattle.plan.specs.Plan.{total, each, never_falls, last_step_rises, apart, below_ends, last, last_reject1, row_rules, numbered_rules}
use Rattle.plan.specs.Row.{row_step, row_end}

-- the four rows
abbrev pub a1 : Stage → ℕ
a1 s = s.accept1

abbrev pub r1 : Stage → ℕ
r1 s = s.reject1

abbrev pub a2 : Stage → ℕ
a2 s = s.accept2

abbrev pub r2 : Stage → ℕ
r2 s = s.reject2

-- no stage is left
abbrev pub none_left : List Stage → Bool
none_left [] = true
none_left (s ∷ rest) = false

rises : (row : Stage → ℕ) (s t : Stage) (rest : List Stage) →
    last_step_rises row (s ∷ t ∷ rest) ≡ (cond (none_left rest) (ltb (row s) (row t)) true && last_step_rises row (t ∷ rest))
unfolding last_step_rises
rises row s t [] = sym (and-true _)
rises row s t (u ∷ rest) = refl

-- a row's rules: those at the first stage, and those after it
row_sorted : (x X l L y Y z Z w W E : Bool) →
    ((x && X) && (l && L) && (y && Y) && (z && Z) && (w && W) && E) ≡ ((x && l && y && z && w) && (X && L && Y && Z && W && E))
row_sorted true X true L true Y true Z true W E = refl
row_sorted true X true L true Y true Z false W E = simp and-false
row_sorted true X true L true Y false Z w W E = simp and-false
row_sorted true X true L false Y z Z w W E = simp and-false
row_sorted true X false L y Y z Z w W E = simp and-false
row_sorted false X l L y Y z Z w W E = refl

all_sorted : (n N S L p P q Q m M k K : Bool) →
    ((n && N) && S && L && (p && P) && (q && Q) && (m && M) && (k && K)) ≡ ((n && p && q && m && k) && (N && S && L && P && Q && M && K))
all_sorted true N S L true P true Q true M true K = refl
all_sorted true N S L true P true Q true M false K = simp and-false
all_sorted true N S L true P true Q false M k K = simp and-false
all_sorted true N S L true P false Q m M k K = simp and-false
all_sorted true N S L false P q Q m M k K = simp and-false
all_sorted false N S L p P q Q m M k K = refl

module _ (before : ℕ) (s t : Stage) (rest : List Stage) where
  abbrev end : ℕ
  end = before + s.size

  -- what the code tests of a row at the first stage
  abbrev step : (Stage → ℕ) → (Stage → ℕ) → Bool
  step a r = row_step (a s) (r s) (a t) (r t) (before + s.size) (none_left rest)

  row_more : (a r : Stage → ℕ) → row_rules a r before (s ∷ t ∷ rest) ≡
      (row_step (a s) (r s) (a t) (r t) (before + s.size) (none_left rest) && row_rules a r (before + s.size) (t ∷ rest))
  unfolding total row_rules row_step apart below_ends last never_falls
  row_more a r = rw (rises a s t rest, ← add_assoc before s.size (total (t ∷ rest)))
      (row_sorted (leb (a s) (a t)) (never_falls a (t ∷ rest)) (cond (none_left rest) (ltb (a s) (a t)) true) (last_step_rises a (t ∷ rest))
      (leb (r s) (r t)) (never_falls r (t ∷ rest)) (ltb (a s + 1) (r s)) (apart a r (t ∷ rest))
      (ltb (a s) end) (below_ends a end (t ∷ rest)) (leb (last r (t ∷ rest)) (end + total (t ∷ rest))))

  pub rules_more : numbered_rules before (s ∷ t ∷ rest) ≡
      ((leb 1 s.size && row_step s.accept1 s.reject1 t.accept1 t.reject1 (before + s.size) (none_left rest) &&
      row_step s.accept2 s.reject2 t.accept2 t.reject2 (before + s.size) (none_left rest) &&
      leb s.accept2 s.accept1 && leb s.reject2 s.reject1) && numbered_rules (before + s.size) (t ∷ rest))
  unfolding numbered_rules total last_reject1 each last
  rules_more = rw (row_more a1 r1, row_more a2 r2, ← add_assoc before s.size (total (t ∷ rest)))
      (all_sorted (leb 1 s.size) (each (λ (u : Stage). leb 1 u.size) (t ∷ rest)) (leb (end + total (t ∷ rest)) 1000) (leb (last r1 (t ∷ rest)) 60)
      (step a1 r1) (row_rules a1 r1 end (t ∷ rest)) (step a2 r2) (row_rules a2 r2 end (t ∷ rest))
      (leb (a2 s) (a1 s)) (each (λ (u : Stage). leb (a2 u) (a1 u)) (t ∷ rest)) (leb (r2 s) (r1 s)) (each (λ (u : Stage). leb (r2 u) (r1 u)) (t ∷ rest)))

pub rules_one : (before : ℕ) (s : Stage) → numbered_rules before (s ∷ []) ≡
    (leb 1 s.size && leb (before + s.size) 1000 && leb s.reject1 60 &&
    row_end s.accept1 s.reject1 (before + s.size) && row_end s.accept2 s.reject2 (before + s.size) &&
    leb s.accept2 s.accept1 && leb s.reject2 s.reject1)
unfolding numbered_rules total last_reject1 each last never_falls last_step_rises apart below_ends row_rules row_end
rules_one before s = simp (and-true, add-zero)
