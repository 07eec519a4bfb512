-- Demand 1 of every call whose refusals are rows: it is refused with n exactly when n is the first row that applies.
-- Assumes nothing.
use Prim.Native.Nat.{ℕ, ◌+◌, ◌≤◌, ◌<◌}
use mathlib.Core.Path.{◌≡◌, refl, ap, sym, ◌∙◌}
use mathlib.Core.Logic.{◌↔◌, ◌⊎◌, inl, inr}
use mathlib.Core.Bool.{Bool, true, false, cond, ◌&&◌}
use mathlib.Core.List.{List, [], ◌∷◌, ◌++◌}
use lib.ListN.{length}
use lib.Dec.{leb, ltb, eqb}
use native.Mathlib.Omega.{arith}
use borrow.Author.Rules.{rules}
use borrow.Author.Tests.{leb-true, ltb-true, eqb-true}
use Rattle.plan.specs.declared.refusal.Refusal.{Refusal}
use Rattle.plan.specs.declared.refusal.Refusal.TheVariants as refusal
use Rattle.plan.specs.Reply.{refused}
use Rattle.plan.specs.Refusal.{Row, number, first_refusal, table, before, place, in_order, Applies, First, RefusalLaw, FirstNumber, AppliesNumber, reply_in_numbers, NumberLaw, TableLaw, NoneApplies, FirstRefusal, RefusedExactly}
use Rattle.plan.proofs.Bools.{and_left, and_right}

module _ {A : Type 0} (refuse : Refusal → A) (grant : A) (apart : (m n : Refusal) → refuse m ≡ refuse n → m ≡ n) (not : (n : Refusal) → grant ≡ refuse n → ⊥) (n : Refusal) where
  to : (rows : List Row) → first_refusal refuse rows grant ≡ refuse n → First rows n
  unfolding first_refusal
  to [] e = not n e
  to (r ∷ rest) e = go r.when refl e (to rest)
    where
      go : (b : Bool) → r.when ≡ b → cond b (refuse r.refusal) (first_refusal refuse rest grant) ≡ refuse n
          → (first_refusal refuse rest grant ≡ refuse n → First rest n) → First (r ∷ rest) n
      go true w e' later = inl (w, apart r.refusal n e')
      go false w e' later = inr (w, later e')

module _ {A : Type 0} (refuse : Refusal → A) (g : A) where
  pub refuses : (rows : List Row) (n : Refusal) → First rows n → first_refusal refuse rows g ≡ refuse n
  unfolding first_refusal
  refuses [] n x' = elim x' [ ]
  refuses (r ∷ rest) n (inl f) = rw f.0 (ap refuse f.1)
  refuses (r ∷ rest) n (inr f) = rw f.0 (refuses rest n f.1)

  pub grants : (rows : List Row) → NoneApplies rows → first_refusal refuse rows g ≡ g
  unfolding first_refusal
  grants [] e = refl
  grants (r ∷ rest) e = rw e.0 (grants rest e.1)

  passes : (r : Row) (rest : List Row) → r.when ≡ false → first_refusal refuse (r ∷ rest) g ≡ first_refusal refuse rest g
  unfolding first_refusal
  passes r rest e = rw e

pub refused_exactly : RefusedExactly
refused_exactly A refuse rows grant apart not n = (to refuse grant apart not n rows, refuses refuse grant rows n)

pub either : (rows : List Row) → ((n : Refusal) × First rows n) ⊎ NoneApplies rows
either [] = inr tt
either (r ∷ rest) = go r.when refl (either rest)
  where
    go : (b : Bool) → r.when ≡ b → ((n : Refusal) × First rest n) ⊎ NoneApplies rest → ((n : Refusal) × First (r ∷ rest) n) ⊎ NoneApplies (r ∷ rest)
    go true w later = inl (r.refusal, inl (w, refl))
    go false w (inl f) = inl (f.0, inr (w, f.1))
    go false w (inr e) = inr (w, e)

mapped : (A B : Type 0) (f : A → B) (refuse : Refusal → A) (rows : List Row) (g : A)
    → f (first_refusal refuse rows g) ≡ first_refusal (λ r. f (refuse r)) rows (f g)
unfolding first_refusal
mapped A B f refuse [] g = refl
mapped A B f refuse (r ∷ rest) g = go r.when (mapped A B f refuse rest g)
  where
    go : (b : Bool) → f (first_refusal refuse rest g) ≡ first_refusal (λ n. f (refuse n)) rest (f g)
        → f (cond b (refuse r.refusal) (first_refusal refuse rest g)) ≡ cond b (f (refuse r.refusal)) (first_refusal (λ n. f (refuse n)) rest (f g))
    go true e = refl
    go false e = e

-- ---- rows in two parts

pub first_append : (rows rest : List Row) (n : Refusal) → First rows n → First (rows ++ rest) n
first_append [] rest n x' = elim x' [ ]
first_append (r ∷ rows) rest n (inl f) = inl f
first_append (r ∷ rows) rest n (inr f) = inr (f.0, first_append rows rest n f.1)

pub first_after : (rows rest : List Row) (n : Refusal) → NoneApplies rows → First rest n → First (rows ++ rest) n
first_after [] rest n e f = f
first_after (r ∷ rows) rest n e f = inr (e.0, first_after rows rest n e.1 f)

pub none_append : (rows rest : List Row) → NoneApplies rows → NoneApplies rest → NoneApplies (rows ++ rest)
none_append [] rest e f = f
none_append (r ∷ rows) rest e f = (e.0, none_append rows rest e.1 f)

pub first_refusals : FirstRefusal
first_refusals = record {
  refuses = λ A refuse rows g. refuses refuse g rows;
  grants = λ A refuse rows g. grants refuse g rows;
  passes = λ A refuse r rest g. passes refuse g r rest;
  either = either;
  mapped = mapped;
}

-- ---- the table's order

module _ (from : ℕ) (r : Row) (rest : List Row) (e : in_order from (r ∷ rest) ≡ true) where
  here : (leb from (place (number r.refusal)) && ltb (place (number r.refusal)) (length table)) ≡ true
  here = and_left (leb from (place (number r.refusal)) && ltb (place (number r.refusal)) (length table)) (in_order (place (number r.refusal) + 1) rest) e

  later : in_order (place (number r.refusal) + 1) rest ≡ true
  later = and_right (leb from (place (number r.refusal)) && ltb (place (number r.refusal)) (length table)) (in_order (place (number r.refusal) + 1) rest) e

  after_from : from ≤ place (number r.refusal)
  after_from = leb-true from (place (number r.refusal)) (and_left (leb from (place (number r.refusal))) (ltb (place (number r.refusal)) (length table)) here)

  in_table_here : place (number r.refusal) < length table
  in_table_here = ltb-true (place (number r.refusal)) (length table) (and_right (leb from (place (number r.refusal))) (ltb (place (number r.refusal)) (length table)) here)

-- a row that applies has a place from `from` on
applies_after : (from m : ℕ) (rows : List Row) → in_order from rows ≡ true → AppliesNumber rows m → from ≤ place m
applies_after from m [] e x'' = elim x'' [ ]
applies_after from m (r ∷ rest) e (inl a) = omega (arith, ap place a.1, after_from from r rest e)
applies_after from m (r ∷ rest) e (inr a) = omega (arith, after_from from r rest e, applies_after (place (number r.refusal) + 1) m rest (later from r rest e) a)

none_before : (from n m : ℕ) (rows : List Row) → in_order from rows ≡ true → FirstNumber rows n → AppliesNumber rows m → place n ≤ place m
none_before from n m [] e x3 _ = elim x3 [ ]
none_before from n m (r ∷ rest) e (inl f) (inl a) = omega (arith, ap place f.1, ap place a.1)
none_before from n m (r ∷ rest) e (inl f) (inr a) =
    omega (arith, ap place f.1, applies_after (place (number r.refusal) + 1) m rest (later from r rest e) a)
none_before from n m (r ∷ rest) e (inr f) (inl a) = let z : ◌≡◌ {A = ℕ} 0 1 = cc (f.0, a.0) in absurd (omega arith)
none_before from n m (r ∷ rest) e (inr f) (inr a) = none_before (place (number r.refusal) + 1) n m rest (later from r rest e) f.1 a

-- ---- rows by their refusals, and by the numbers of these

first_number : (rows : List Row) (n : Refusal) → First rows n → FirstNumber rows (number n)
first_number [] n x' = elim x' [ ]
first_number (r ∷ rest) n (inl f) = inl (f.0, ap number f.1)
first_number (r ∷ rest) n (inr f) = inr (f.0, first_number rest n f.1)

applies_number : (rows : List Row) (n : Refusal) → Applies rows n → AppliesNumber rows (number n)
applies_number [] n x' = elim x' [ ]
applies_number (r ∷ rest) n (inl a) = inl (a.0, ap number a.1)
applies_number (r ∷ rest) n (inr a) = inr (applies_number rest n a)

pub refusal_law : RefusalLaw
refusal_law A refuse rows grant apart not e =
    let exactly : (n : Refusal) → (first_refusal refuse rows grant ≡ refuse n) ↔ First rows n = refused_exactly A refuse rows grant apart not in
    record {
      exactly = exactly;
      none_before = λ n m f a. none_before 0 (number n) (number m) rows e (first_number rows n ((exactly n).0 f)) (applies_number rows m a);
    }

-- ---- the table: the refusals are its numbers

-- the refusal of a number; `Line` of one that is not in the table
numbered : ℕ → Refusal
numbered n = pick n (refusal.Size ∷ refusal.Plan ∷ refusal.Corrupt ∷ refusal.Shares ∷ refusal.NoFit ∷ refusal.LotZero ∷ refusal.LotOpen ∷ refusal.NoLot ∷ refusal.Class ∷ refusal.Decided ∷ refusal.NoUnit ∷ refusal.Undecided ∷ refusal.Full ∷ refusal.HeldBack ∷ refusal.TotalsFull ∷ refusal.Weights ∷ refusal.LotSize ∷ refusal.Scratch ∷ refusal.SeveralStages ∷ [])
  where
    pick : ℕ → List Refusal → Refusal
    pick n [] = refusal.Line
    pick n (r ∷ rest) = cond (eqb n (number r)) r (pick n rest)

numbered_number : (r : Refusal) → numbered (number r) ≡ r
unfolding numbered
numbered_number refusal.Size = refl
numbered_number refusal.Plan = refl
numbered_number refusal.Corrupt = refl
numbered_number refusal.Shares = refl
numbered_number refusal.NoFit = refl
numbered_number refusal.LotZero = refl
numbered_number refusal.LotOpen = refl
numbered_number refusal.NoLot = refl
numbered_number refusal.Class = refl
numbered_number refusal.Decided = refl
numbered_number refusal.NoUnit = refl
numbered_number refusal.Undecided = refl
numbered_number refusal.Full = refl
numbered_number refusal.HeldBack = refl
numbered_number refusal.TotalsFull = refl
numbered_number refusal.Weights = refl
numbered_number refusal.LotSize = refl
numbered_number refusal.Scratch = refl
numbered_number refusal.SeveralStages = refl
numbered_number refusal.Line = refl

pub numbers_differ : (m n : Refusal) → number m ≡ number n → m ≡ n
numbers_differ m n e = sym (numbered_number m) ∙ ap numbered e ∙ numbered_number n

Named : List ℕ → Type 0
Named [] = Unit {0}
Named (x ∷ xs) = ((r : Refusal) × (number r ≡ x)) × Named xs

-- the refusal of a number of the list
named : (n : ℕ) (xs : List ℕ) → Named xs → before n xs < length xs → (r : Refusal) × (number r ≡ n)
unfolding Named
named n [] k h = absurd (omega arith)
named n (x ∷ xs) k h = go (eqb n x) refl (named n xs k.1)
  where
    go : (b : Bool) → eqb n x ≡ b → (before n xs < length xs → (r : Refusal) × (number r ≡ n)) → (r : Refusal) × (number r ≡ n)
    go true e of_rest = (k.0.0, k.0.1 ∙ sym (eqb-true n x e))
    go false e of_rest = of_rest (omega (arith, (rw e at h)))

the_table : Named table
unfolding Named
the_table = (
  (refusal.Size, refl),
  (
    (refusal.Plan, refl),
    (
      (refusal.Corrupt, refl),
      (
        (refusal.Shares, refl),
        (
          (refusal.NoFit, refl),
          (
            (refusal.LotZero, refl),
            (
              (refusal.LotOpen, refl),
              (
                (refusal.NoLot, refl),
                (
                  (refusal.Class, refl),
                  (
                    (refusal.Decided, refl),
                    (
                      (refusal.NoUnit, refl),
                      (
                        (refusal.Undecided, refl),
                        (
                          (refusal.Full, refl),
                          (
                            (refusal.HeldBack, refl),
                            (
                              (refusal.TotalsFull, refl),
                              (
                                (refusal.Weights, refl),
                                (
                                  (refusal.LotSize, refl),
                                  (
                                    (refusal.Scratch, refl),
                                    (
                                      (refusal.SeveralStages, refl),
                                      (
                                        (refusal.Line, refl),
                                        tt,
                                      ),
                                    ),
                                  ),
                                ),
                              ),
                            ),
                          ),
                        ),
                      ),
                    ),
                  ),
                ),
              ),
            ),
          ),
        ),
      ),
    ),
  ),
)

in_the_table : (r : Refusal) → place (number r) < length table
in_the_table refusal.Size = search rules
in_the_table refusal.Plan = search rules
in_the_table refusal.Corrupt = search rules
in_the_table refusal.Shares = search rules
in_the_table refusal.NoFit = search rules
in_the_table refusal.LotZero = search rules
in_the_table refusal.LotOpen = search rules
in_the_table refusal.NoLot = search rules
in_the_table refusal.Class = search rules
in_the_table refusal.Decided = search rules
in_the_table refusal.NoUnit = search rules
in_the_table refusal.Undecided = search rules
in_the_table refusal.Full = search rules
in_the_table refusal.HeldBack = search rules
in_the_table refusal.TotalsFull = search rules
in_the_table refusal.Weights = search rules
in_the_table refusal.LotSize = search rules
in_the_table refusal.Scratch = search rules
in_the_table refusal.SeveralStages = search rules
in_the_table refusal.Line = search rules

pub table_law : TableLaw
table_law = record {
  differ = numbers_differ;
  in_table = in_the_table;
  all = λ n h. named n table the_table h;
}

-- ---- replies in numbers

module _ (values : List ℕ) (n : ℕ) where
  pub to_number : (rows : List Row) → reply_in_numbers rows values ≡ refused n → FirstNumber rows n
  unfolding first_refusal
  to_number [] e = cc
  to_number (r ∷ rest) e = go r.when refl e (to_number rest)
    where
      go : (b : Bool) → r.when ≡ b → cond b (refused (number r.refusal)) (reply_in_numbers rest values) ≡ refused n
          → (reply_in_numbers rest values ≡ refused n → FirstNumber rest n) → FirstNumber (r ∷ rest) n
      go true w e' later = inl (w, cc e')
      go false w e' later = inr (w, later e')

  pub from_number : (rows : List Row) → FirstNumber rows n → reply_in_numbers rows values ≡ refused n
  unfolding first_refusal
  from_number [] x' = elim x' [ ]
  from_number (r ∷ rest) (inl f) = rw f.0 (ap refused f.1)
  from_number (r ∷ rest) (inr f) = rw f.0 (from_number rest f.1)

-- 0 is not in the table
zero_place : place 0 ≡ length table
zero_place = refl

never_first : (from : ℕ) (rows : List Row) → in_order from rows ≡ true → FirstNumber rows 0 → ⊥
never_first from [] e x'' = elim x'' [ ]
never_first from (r ∷ rest) e (inl f) = omega (arith, ap place f.1, zero_place, in_table_here from r rest e)
never_first from (r ∷ rest) e (inr f) = never_first (place (number r.refusal) + 1) rest (later from r rest e) f.1

pub number_law : NumberLaw
number_law rows values e = record {
  exactly = λ n. (to_number values n rows, from_number values n rows);
  none_before = λ n m f a. none_before 0 n m rows e (to_number values n rows f) a;
  never_zero = λ f. never_first 0 rows e (to_number values 0 rows f);
}
