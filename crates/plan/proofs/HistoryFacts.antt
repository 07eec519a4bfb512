-- Histories, one unit longer, and their completions, of any stages.
-- Assumes nothing.
use Prim.Native.Nat.{ℕ, ◌+◌, ◌≤◌, ◌<◌}
use mathlib.Core.Path.{◌≡◌, ap, ◌∙◌}
use mathlib.Core.Logic.{⊎_elim}
use mathlib.Core.List.{List, [], ◌∷◌, ◌++◌}
use lib.ListN.{length, take, length-append}
use lib.Seq.{take-append-le, take-append_seam, take-length}
use native.Mathlib.Nat.{eq-or-lt_of_le}
use native.Mathlib.Omega.{arith}
use Rattle.plan.specs.declared.stage.Answer.TheVariants.{GoOn}
use Rattle.plan.specs.declared.stage.Stage.{Stage}
use Rattle.plan.specs.Plan.{total}
use Rattle.plan.specs.Counts.{counts}
use Rattle.plan.specs.Stopping.{earliest}
use Rattle.plan.specs.Sample.{highest_class, Classes, Completion}
use Rattle.plan.specs.Promise.{History, Histories}
use Rattle.plan.proofs.Sample.{classing}

module _ (p : List Stage) where
  one_unit_more : (h : List ℕ) (x : ℕ) → x ≤ highest_class → History p h → earliest p (counts h) ≡ GoOn → History p (h ++ (x ∷ []))
  one_unit_more h x l k e = record { classes = classing.appended h (x ∷ []) k.classes (classing.more x [] l classing.none); undecided_before = before }
    where
      before : (y : ℕ) → y < length (h ++ (x ∷ [])) → earliest p (counts (take y (h ++ (x ∷ [])))) ≡ GoOn
      before y m =
          let within : y ≤ length h = omega (arith, length-append h (x ∷ [])) in
          rw (take-append-le y h (x ∷ []) within)
          (⊎_elim {C = earliest p (counts (take y h)) ≡ GoOn}
          (λ q. ap (λ (k : ℕ). earliest p (counts (take k h))) q ∙ ap (λ (l : List ℕ). earliest p (counts l)) (take-length h) ∙ e)
          (λ q. k.undecided_before y q) (eq-or-lt_of_le within))

  completion : (h x : List ℕ) → Classes h → Classes x → length h + length x ≡ total p → Completion p h (h ++ x)
  completion h x a b e = record { complete = length-append h x ∙ e; classes = classing.appended h x a b; begins = take-append_seam h x }

  pub histories : Histories p
  histories = record { no_unit = record { classes = classing.none; undecided_before = λ y l. absurd (omega arith) }; one_unit_more = one_unit_more; completion = completion }
