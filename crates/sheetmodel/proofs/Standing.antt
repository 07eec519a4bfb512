-- A standing history: what the plan layer promises of the inspections of a lot. Nothing else of the plan layer is used.
-- Assumes nothing.
use Prim.Native.Nat.{ℕ}
use mathlib.Core.Path.{◌≡◌, refl}
use mathlib.Core.Bool.{true}
use mathlib.Core.List.{List, [], ◌∷◌}
use native.Mathlib.Omega.{arith}
use Rattle.plan.specs.declared.stage.Answer.{Answer}
use Rattle.plan.specs.declared.stage.Answer.TheVariants.{GoOn, Accept, Reject}
use Rattle.plan.specs.declared.stage.Stage.{Stage}
use Rattle.plan.specs.Plan.{stages, admitted}
use Rattle.plan.specs.Counts.{counts}
use Rattle.plan.specs.Stopping.{earliest}
use Rattle.plan.specs.Sample.{Classes, AllHave}
use Rattle.plan.specs.Promise.{History}
use Rattle.plan.proofs.Promise.{promise}
use Rattle.plan.proofs.Sample.{classing}
use Rattle.sheetmodel.specs.Layout.{next}
use Rattle.sheetmodel.specs.Contents.{Inspection, classes}
use Rattle.sheetmodel.specs.Holds.{Inspections, UndecidedBefore}
use Rattle.sheetmodel.specs.Demand3.{RightAnswer}
use Rattle.sheetmodel.proofs.HistoryLaws.{classes_cons}

known : (start : ℕ) (w : List ℕ) (hi lot at : ℕ) (is : List Inspection) → Inspections start w hi lot is at → Classes (classes is)
known start w hi lot at [] h = classing.none
known start w hi lot at (i ∷ is) h =
    rw (classes_cons i is) (classing.appended (classes is) (i.class ∷ []) (known start w hi lot (next w i.at) is h.1) (classing.more i.class [] h.0.known classing.none))

pub is_history : (p : List Stage) (start : ℕ) (w : List ℕ) (hi lot at : ℕ) (is : List Inspection) → Inspections start w hi lot is at → UndecidedBefore p (classes is) → History p (classes is)
is_history p start w hi lot at is h o = record { classes = known start w hi lot at is h; undecided_before = o }

-- the earliest stop's answer is right
module _ (p : List ℕ) (adm : admitted p ≡ true) (h : List ℕ) (k : History (stages p) h) where
  pub right_answer : RightAnswer p h (earliest (stages p) (counts h))
  right_answer =
      let a = (promise p adm).accepted h k in
      let r = (promise p adm).rejected h k in
      record { accepted = a; rejected = r; undecided = (λ e. ((λ f. not_accepted e (a.1 f)), (λ f. not_rejected e (r.1 f))), (λ n. go (earliest (stages p) (counts h)) refl n)) }
    where
      not_accepted : earliest (stages p) (counts h) ≡ GoOn → earliest (stages p) (counts h) ≡ Accept → ⊥
      not_accepted e f = let z : ◌≡◌ {A = ℕ} 0 1 = cc in omega arith

      not_rejected : earliest (stages p) (counts h) ≡ GoOn → earliest (stages p) (counts h) ≡ Reject → ⊥
      not_rejected e f = let z : ◌≡◌ {A = ℕ} 0 1 = cc in omega arith

      go : (b : Answer) → earliest (stages p) (counts h) ≡ b → (¬ AllHave (stages p) h Accept) × (¬ AllHave (stages p) h Reject) → b ≡ GoOn
      go GoOn e n = refl
      go Accept e n = absurd (n.0 (((promise p adm).accepted h k).0 e))
      go Reject e n = absurd (n.1 (((promise p adm).rejected h k).0 e))
