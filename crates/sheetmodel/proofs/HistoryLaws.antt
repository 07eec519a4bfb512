-- Laws of a history: of its classes, and that no inspection comes after the earliest stop, as a test of the reader and as a fact.
-- Assumes nothing.
use Prim.Native.Nat.{ℕ, ◌≤◌}
use mathlib.Core.Path.{◌≡◌, refl, sym, ap, ◌∙◌, subst}
use mathlib.Core.Bool.{Bool, true, false, true≢false}
use mathlib.Core.List.{List, [], ◌∷◌, ◌++◌, map, reverse-cons}
use native.Mathlib.Omega.{arith}
use lib.ListN.{length, take, length-reverse, length-map, length-append}
use lib.Seq.{take-append-le, take-append_seam, take_all}
use lib.Dec.{ltb}
use borrow.Author.Tests.{ltb-true, ltb-false}
use Rattle.plan.specs.declared.stage.Answer.{Answer}
use Rattle.plan.specs.declared.stage.Answer.TheVariants.{GoOn, Accept, Reject}
use Rattle.plan.specs.declared.stage.Stage.{Stage}
use Rattle.plan.specs.Plan.{stages, admitted}
use Rattle.plan.specs.Counts.{counts, units}
use Rattle.plan.specs.Stopping.{earliest}
use Rattle.plan.proofs.Promise.{promise, counting}
use Rattle.sheetmodel.specs.Contents.{Inspection, Lot, classes}
use Rattle.sheetmodel.specs.Holds.{UndecidedBefore, AllUndecidedBefore}
use Rattle.sheetmodel.specs.History.{without_last}
use Rattle.sheetmodel.specs.Read.{undecided, undecided_before, all_undecided_before}
use Rattle.plan.proofs.Bools.{and_both, and_left, and_right}

pub classes_cons : (i : Inspection) (is : List Inspection) → classes (i ∷ is) ≡ classes is ++ (i.class ∷ [])
classes_cons i is = reverse-cons i.class (map (λ (k : Inspection). k.class) is)

pub length_classes : (is : List Inspection) → length (classes is) ≡ length is
length_classes is = length-reverse (map (λ (k : Inspection). k.class) is) ∙ length-map is (λ (k : Inspection). k.class)

-- as many units as inspections
pub units_of : (is : List Inspection) → units (counts (classes is)) ≡ length is
units_of is = counting.length_of (classes is) ∙ length_classes is

pub without_last_snoc : (xs : List ℕ) (c : ℕ) → without_last (xs ++ (c ∷ [])) ≡ xs
without_last_snoc [] c = refl
without_last_snoc (x ∷ []) c = refl
without_last_snoc (x ∷ y ∷ r) c = ap (λ (l : List ℕ). x ∷ l) (without_last_snoc (y ∷ r) c)

pub goes_on : (a : Answer) → undecided a ≡ true → a ≡ GoOn
goes_on GoOn e = refl
goes_on Accept e = let z : false ≡ true = e in cc
goes_on Reject e = let z : false ≡ true = e in cc

-- a decided history has a unit
pub has_unit : (p : List ℕ) → admitted p ≡ true → (h : List ℕ) → undecided (earliest (stages p) (counts h)) ≡ false → 1 ≤ length h
has_unit p a [] u =
    let z : true ≡ false = rw (counting.empty, (promise p a).empty) at u in
    absurd (true≢false z)
has_unit p a (x ∷ h) u = omega arith

module _ (p : List Stage) where
  pub one_more : (h : List ℕ) (c : ℕ) → earliest p (counts h) ≡ GoOn → UndecidedBefore p h → UndecidedBefore p (h ++ (c ∷ []))
  one_more h c e o y b =
      let k : y ≤ length h = omega (arith, length-append h (c ∷ [])) in
      rw (take-append-le y h (c ∷ []) k) (go (ltb y (length h)) refl)
    where
      go : (t : Bool) → ltb y (length h) ≡ t → earliest p (counts (take y h)) ≡ GoOn
      go true d = o y (ltb-true y (length h) d)
      go false d = rw (take_all y h (ltb-false y (length h) d)) e

  pub one_less : (h : List ℕ) (c : ℕ) → UndecidedBefore p (h ++ (c ∷ [])) → UndecidedBefore p h
  one_less h c o y b = ap (λ (l : List ℕ). earliest p (counts l)) (sym (take-append-le y h (c ∷ []) (omega arith))) ∙ o y (omega (arith, length-append h (c ∷ [])))

  before_last : (h : List ℕ) (c : ℕ) → UndecidedBefore p (h ++ (c ∷ [])) → earliest p (counts h) ≡ GoOn
  before_last h c o = ap (λ (l : List ℕ). earliest p (counts l)) (sym (take-append_seam h (c ∷ []))) ∙ o (length h) (omega (arith, length-append h (c ∷ [])))

  pub fact : (is : List Inspection) → undecided_before p is ≡ true → UndecidedBefore p (classes is)
  fact [] h = λ y b. absurd (omega arith)
  fact (i ∷ is) h =
      subst (UndecidedBefore p) (sym (classes_cons i is))
      (one_more (classes is) i.class (goes_on (earliest p (counts (classes is))) (and_left (undecided (earliest p (counts (classes is)))) (undecided_before p is) h))
      (fact is (and_right (undecided (earliest p (counts (classes is)))) (undecided_before p is) h)))

  pub test : (is : List Inspection) → UndecidedBefore p (classes is) → undecided_before p is ≡ true
  test [] h = refl
  test (i ∷ is) h =
      let o = subst (UndecidedBefore p) (classes_cons i is) h in
      and_both (ap undecided (before_last (classes is) i.class o)) (test is (one_less (classes is) i.class o))

  pub undecided_facts : (ls : List Lot) → all_undecided_before p ls ≡ true → AllUndecidedBefore p ls
  undecided_facts [] e = tt
  undecided_facts (l ∷ ls) e =
      (fact l.inspections (and_left (undecided_before p l.inspections) (all_undecided_before p ls) e), undecided_facts ls (and_right (undecided_before p l.inspections) (all_undecided_before p ls) e))

  pub undecided_tests : (ls : List Lot) → AllUndecidedBefore p ls → all_undecided_before p ls ≡ true
  undecided_tests [] h = refl
  undecided_tests (l ∷ ls) h = and_both (test l.inspections h.0) (undecided_tests ls h.1)
