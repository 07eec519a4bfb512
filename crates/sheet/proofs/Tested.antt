-- What the walk tests is enough: undecided before the newest inspection and at the ends of stages is undecided before each.
-- Assumes nothing.
use Rattle.plan.proofs.Bools.{and_left, and_right}
use Prim.Native.Nat.{ℕ, ◌-◌, ◌≤◌, ◌<◌}
use mathlib.Core.Path.{◌≡◌, refl, sym, ◌∙◌}
use mathlib.Core.Logic.{◌⊎◌, inl, inr, ⊎_elim}
use mathlib.Core.Bool.{Bool, true, false, cond, ◌&&◌}
use mathlib.Core.List.{List, [], ◌∷◌}
use native.Mathlib.Omega.{arith}
use native.Mathlib.Decide.{dec_lt}
use lib.ListN.{length, take}
use lib.Seq.{take-append-le, take_all}
use lib.Dec.{eqb}
use borrow.Author.Tests.{eqb-true, eqb-false}
use Rattle.plan.specs.declared.stage.Answer.TheVariants.{GoOn}
use Rattle.plan.specs.declared.stage.Stage.{Stage}
use Rattle.plan.specs.Plan.{stages, End, end_below, admitted}
use Rattle.plan.specs.Counts.{counts}
use Rattle.plan.specs.Stopping.{earliest}
use Rattle.plan.proofs.Promise.{promise}
use Rattle.sheetmodel.specs.Contents.{Inspection, classes}
use Rattle.sheetmodel.specs.Read.{undecided, undecided_before}
use Rattle.sheet.specs.Survey.{next_test, tested}
use Rattle.sheetmodel.proofs.ForSheet.{classes_cons, length_classes, goes_on, test}

-- undecided before each is undecided where the walk tests
pub tests_hold : (p : List Stage) (t : ℕ) (is : List Inspection) → undecided_before p is ≡ true → tested p t is ≡ true
tests_hold p t [] e = refl
tests_hold p t (i ∷ is) e =
    let u : undecided (earliest p (counts (classes is))) ≡ true = and_left (undecided (earliest p (counts (classes is)))) (undecided_before p is) e in
    let later = tests_hold p (next_test p t (length is)) is (and_right (undecided (earliest p (counts (classes is)))) (undecided_before p is) e) in
    rw later (go (eqb (length is) t) u)
  where
    go : (b : Bool) → undecided (earliest p (counts (classes is))) ≡ true → (cond b (undecided (earliest p (counts (classes is)))) true && true) ≡ true
    go true u = rw u
    go false u = refl

module _ (w : List ℕ) (e : admitted w ≡ true) where
  abbrev p : List Stage
  p = stages w

  -- a number of units that the walk tests: t, or a stage end below it
  abbrev Place : ℕ → ℕ → Type 0
  Place t y = (y ≡ t) ⊎ (End 0 (stages w) y × (y < t))

  abbrev At : ℕ → List Inspection → Type 0
  At y is = earliest (stages w) (counts (take y (classes is))) ≡ GoOn

  -- a beginning of the older inspections is one of all
  older : (i : Inspection) (is : List Inspection) (y : ℕ) → y ≤ length is → At y is → At y (i ∷ is)
  older i is y l a = rw (classes_cons i is, take-append-le y (classes is) (i.class ∷ []) (omega (arith, length_classes is))) a

  nearer : (y t : ℕ) → y ≤ t → End 0 (stages w) y → Place t y
  nearer y t l m = elim (dec_lt y t) [ yes d ↦ inr (m, d) | no d ↦ inl (omega arith) ]

  places : (t : ℕ) (is : List Inspection) → tested (stages w) t is ≡ true → t < length is → (y : ℕ) → y < length is → Place t y → At y is
  places t [] h l y k q = absurd (omega arith)
  places t (i ∷ is) h l y k q = go (eqb (length is) t) refl h (λ t'. places t' is)
    where
      go : (b : Bool) → eqb (length is) t ≡ b
          → (cond b (undecided (earliest (stages w) (counts (classes is)))) true && tested (stages w) (cond b (end_below 0 (stages w) (length is)) t) is) ≡ true
          → ((t' : ℕ) → tested (stages w) t' is ≡ true → t' < length is → (z : ℕ) → z < length is → Place t' z → At z is) → At y (i ∷ is)
      go true f h' later =
          let n : length is ≡ t = eqb-true (length is) t f in
          ⊎_elim
          (λ z. older i is y (omega arith)
          (rw (take_all y (classes is) (omega (arith, length_classes is)))
          (goes_on (earliest (stages w) (counts (classes is))) (and_left (undecided (earliest (stages w) (counts (classes is)))) _ h'))))
          (λ z.
          let b = (promise w e).end_below_is (length is) (omega (arith, z.1)) in
          let near : y ≤ end_below 0 (stages w) (length is) = b.1 y z.0 (omega (arith, z.1)) in
          older i is y (omega (arith, z.1))
          (later (end_below 0 (stages w) (length is)) (and_right (undecided (earliest (stages w) (counts (classes is)))) _ h') b.0 y (omega (arith, z.1)) (nearer y (end_below 0 (stages w) (length is)) near z.0)))
          q
      go false f h' later =
          let n : t < length is = below_it (eqb-false (length is) t f) in
          let y_to : y ≤ t = ⊎_elim (λ z. omega arith) (λ z. omega (arith, z.1)) q in
          older i is y (omega arith) (later t h' n y (omega arith) q)
        where
          below_it : (length is ≡ t → ⊥) → t < length is
          below_it n = elim (dec_lt t (length is)) [ yes m ↦ m | no m ↦ absurd (n (omega arith)) ]

  -- undecided where the walk tests is undecided before each
  pub tests_tell : (is : List Inspection) → tested (stages w) (length is - 1) is ≡ true → undecided_before (stages w) is ≡ true
  tests_tell [] h = refl
  tests_tell (i ∷ is) h =
      test (stages w) (i ∷ is) (λ y l.
      let n = length_classes (i ∷ is) in
      let q : (z : ℕ) → z < length (i ∷ is) → Place (length (i ∷ is) - 1) z → At z (i ∷ is) = places (length (i ∷ is) - 1) (i ∷ is) h (omega arith) in
      (promise w e).by_ends (classes (i ∷ is))
      (λ z m k. q z (omega arith) (elim (dec_lt z (length (i ∷ is) - 1)) [ yes d ↦ inr (m, d) | no d ↦ inl (omega arith) ]))
      (rw n (q (length (i ∷ is) - 1) (omega arith) (inl refl)))
      y l)

  pub same_test : (is : List Inspection) → tested (stages w) (length is - 1) is ≡ undecided_before (stages w) is
  same_test is = go (tested (stages w) (length is - 1) is) (undecided_before (stages w) is) refl refl
    where
      go : (a b : Bool) → tested (stages w) (length is - 1) is ≡ a → undecided_before (stages w) is ≡ b → a ≡ b
      go true true f g = refl
      go true false f g = sym (tests_tell is f) ∙ g
      go false true f g = sym f ∙ tests_hold (stages w) (length is - 1) is g
      go false false f g = refl
