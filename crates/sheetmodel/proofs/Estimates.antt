-- The laws of estimates. Assumes nothing.
use Prim.Native.Nat.{ℕ, ◌-◌, ◌≤◌}
use mathlib.Core.Path.{◌≡◌, refl, ap, subst, ◌∙◌}
use mathlib.Core.Logic.{◌≢◌}
use mathlib.Core.Bool.{true, false, not, true≢false}
use mathlib.Core.Option.{Option, none, some}
use mathlib.Core.List.{List, [], ◌∷◌}
use native.Mathlib.Omega.{arith}
use lib.ListN.{length}
use borrow.Author.Tests.{ne_eqb}
use Rattle.plan.specs.declared.stage.Stage.{Stage}
use Rattle.plan.specs.Plan.{stages, admitted}
use Rattle.plan.specs.Counts.{counts, no_units, add_units}
use Rattle.plan.specs.Refusal.{NoneApplies}
use Rattle.plan.proofs.Promise.{counting}
use Rattle.std.specs.declared.result.Result.{Result}
use Rattle.std.specs.declared.result.Result.TheVariants.{Ok}
use Rattle.plan.specs.declared.refusal.Refusal.{Refusal}
use Rattle.sheetmodel.specs.declared.reply.Estimate.{Estimate}
use Rattle.sheetmodel.specs.Layout.{plan_words}
use Rattle.sheetmodel.specs.Contents.{Contents, history, find}
use Rattle.sheetmodel.specs.Read.{read}
use Rattle.sheetmodel.specs.Rows.{is_some}
use Rattle.sheetmodel.specs.Calls.{Outcome, contents, lot}
use Rattle.sheetmodel.specs.History.{without_last}
use Rattle.sheetmodel.specs.Estimate.{evidence, estimate_of, estimate_rows, estimate, Fractions, EstimateLaws}
use Rattle.sheetmodel.proofs.HistoryLaws.{has_unit}
use Rattle.sheetmodel.proofs.Read.{reads_a_sheet}
use Rattle.sheetmodel.proofs.Outcomes.{by_rows}
use Rattle.sheetmodel.proofs.ReplyRows.{its_history}

-- of several units all but the last
without_the_last : (h : List ℕ) → 2 ≤ length h → evidence h ≡ without_last h
without_the_last h b = rw (ne_eqb (length h) 1 (λ e. omega arith))

-- ---- every estimate that is granted

some_evidence : (h : List ℕ) → 1 ≤ length h → 1 ≤ length (evidence h)
some_evidence [] b = elim b [ ]
some_evidence (x ∷ []) b = omega arith
some_evidence (x ∷ y ∷ rest) b = rw (without_the_last (x ∷ y ∷ rest) (omega arith)) (omega arith)

fractions : (p : List Stage) (h : List ℕ) → 1 ≤ length h → Fractions (estimate_of p h)
fractions p h b = record { adds_up = counting.length_of (evidence h); at_least_one = some_evidence h b }

module _ (n : ℕ) (w : List ℕ) where
  intact_plan : (o : Option Contents) → read w ≡ o → not (is_some o) ≡ false → admitted (plan_words w) ≡ true
  intact_plan none e c = absurd (true≢false c)
  intact_plan (some s) e c = ((reads_a_sheet w s).0 e).1.plan

  -- no row applies: the sheet is intact, and the lot is decided
  inspected : NoneApplies (estimate_rows n w) → 1 ≤ length (history (lot n w))
  unfolding estimate_rows
  inspected (size, (intact, (found, (decided, rest)))) =
      rw (its_history (find n (contents w).lots)) (has_unit (plan_words w) (intact_plan (read w) refl intact) _ decided)

  granted : (e : Estimate) → (estimate n w).reply ≡ Ok e → Fractions e
  unfolding estimate
  granted =
      let its : Estimate = estimate_of (stages (plan_words w)) (history (lot n w)) in
      by_rows w its w
      (λ (o : Outcome (Result Estimate Refusal)). (e : Estimate) → o.reply ≡ Ok e → Fractions e)
      (λ m e q. let z : ◌≡◌ {A = ℕ} 0 1 = cc in absurd (omega arith))
      (estimate_rows n w)
      (λ none e q. let same : its ≡ e = cc in subst Fractions same (fractions (stages (plan_words w)) (history (lot n w)) (inspected none)))

-- ---- one unit

one_counted : (x : ℕ) → counts (x ∷ []) ≡ add_units x 1 no_units
one_counted x = counting.one_more [] x ∙ ap (add_units x 1) counting.empty

one_good : (p : List Stage) → estimate_of p (0 ∷ []) ≡ record { good = 1; marginal = 0; bad = 0; over = 1 }
one_good p = rw (one_counted 0, counting.good 1 no_units)

one_marginal : (p : List Stage) (x : ℕ) → x ≢ 0 → x ≢ 2 → estimate_of p (x ∷ []) ≡ record { good = 0; marginal = 1; bad = 0; over = 1 }
one_marginal p x not_Good not_bad = rw (one_counted x, counting.marginal x 1 no_units not_Good not_bad)

one_bad : (p : List Stage) → estimate_of p (2 ∷ []) ≡ record { good = 0; marginal = 0; bad = 1; over = 1 }
one_bad p = rw (one_counted 2, counting.bad 1 no_units)

-- ---- several units

one_less : (h : List ℕ) → length (without_last h) ≡ length h - 1
one_less [] = refl
one_less (x ∷ []) = refl
one_less (x ∷ y ∷ rest) = omega (arith, one_less (y ∷ rest))

several : (p : List Stage) (h : List ℕ) → 2 ≤ length h → estimate_of p h ≡
    (let c = counts (without_last h) in record { good = c.good; marginal = c.marginal; bad = c.bad; over = length h - 1 })
several p h b = rw (without_the_last h b, one_less h)

pub estimate_laws : EstimateLaws
estimate_laws = record {
  granted = granted;
  one_good = one_good;
  one_marginal = one_marginal;
  one_bad = one_bad;
  several = several;
}
