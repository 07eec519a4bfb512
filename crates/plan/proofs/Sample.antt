-- Classes of units, and the test of them. Assumes nothing.
use Prim.Native.Nat.{ℕ, zero, suc, ◌≤◌}
use mathlib.Core.Path.{◌≡◌, refl}
use mathlib.Core.Bool.{true}
use mathlib.Core.List.{List, [], ◌∷◌, ◌++◌}
use lib.ListN.{take, replicate}
use lib.Dec.{leb}
use borrow.Author.Tests.{leb-true, le-leb}
use Rattle.plan.specs.Sample.{highest_class, Classes, are_classes, Classing}
use Rattle.plan.proofs.Bools.{and_left, and_right, and_both}

pub classes_append : (h r : List ℕ) → Classes h → Classes r → Classes (h ++ r)
unfolding Classes
classes_append [] r c d = d
classes_append (x ∷ h) r c d = (c.0, classes_append h r c.1 d)

pub classes_replicate : (n class : ℕ) → class ≤ highest_class → Classes (replicate n class)
unfolding Classes
classes_replicate zero class l = tt
classes_replicate (suc n) class l = (l, classes_replicate n class l)

pub classes_take : (y : ℕ) (h : List ℕ) → Classes h → Classes (take y h)
unfolding Classes
classes_take zero h c = tt
classes_take (suc y) [] c = tt
classes_take (suc y) (x ∷ h) c = (c.0, classes_take y h c.1)

of_test : (xs : List ℕ) → are_classes xs ≡ true → Classes xs
unfolding Classes are_classes
of_test [] e = tt
of_test (x ∷ xs) e =
    (leb-true x highest_class (and_left (leb x highest_class) (are_classes xs) e), of_test xs (and_right (leb x highest_class) (are_classes xs) e))

to_test : (xs : List ℕ) → Classes xs → are_classes xs ≡ true
unfolding Classes are_classes
to_test [] c = refl
to_test (x ∷ xs) c = and_both (le-leb x highest_class c.0) (to_test xs c.1)

pub classing : Classing
unfolding Classes are_classes
classing = record {
  tested = λ xs. (of_test xs, to_test xs);
  none = tt;
  more = λ x xs l c. (l, c);
  first = λ x xs c. c.0;
  rest = λ x xs c. c.1;
  appended = classes_append;
  taken = classes_take;
  none_tested = refl;
  more_tested = λ x xs. refl;
}
