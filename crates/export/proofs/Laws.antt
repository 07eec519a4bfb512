-- The number 0 is returned exactly when the call is granted, and then an estimate's denominator is not 0. Assumes nothing.
use Prim.Native.Nat.{◌≤◌}
use mathlib.Core.Path.{◌≡◌, refl, ap, ◌∙◌}
use mathlib.Core.Logic.{◌≢◌}
use Rattle.std.specs.declared.result.Result.{Result}
use Rattle.std.specs.declared.result.Result.TheVariants.{Ok, Err}
use Rattle.plan.specs.declared.refusal.Refusal.{Refusal}
use Rattle.plan.specs.Reply.{Reply, granted, refused}
use Rattle.sheetmodel.specs.declared.reply.Estimate.{Estimate}
use Rattle.sheetmodel.specs.Layout.{word}
use Rattle.sheetmodel.specs.Reply.{estimate_reply}
use Rattle.sheetmodel.specs.Estimate.{estimate}
use Rattle.sheetmodel.proofs.Demand1.{demand_1}
use Rattle.sheetmodel.proofs.Estimates.{estimate_laws}
use Rattle.judge.proofs.Laws.{refused_rightly}
use Rattle.chance.proofs.Laws.{refusal_law, lot_refusal_law, units_refusal_law}
use Rattle.export.specs.Returned.{number, left}
use Rattle.export.specs.Laws.{ZeroExactly, ZeroLaw, DenominatorLaw}

-- ---- an answer that is no refusal with the number 0

of_reply : (r : Reply) → r ≢ refused 0 → ZeroExactly r
of_reply (granted values) not = (λ e. tt, λ g. refl)
of_reply (refused n) not = (λ e. not (ap refused e), λ g. absurd g)

-- ---- the calls

pub zero_law : ZeroLaw
zero_law = record {
  fresh = λ p shares w. of_reply _ ((demand_1 w).fresh p shares).by_number.never_zero;
  carrying = λ old shares w. of_reply _ ((demand_1 w).carrying old shares).by_number.never_zero;
  opening = λ n w. of_reply _ ((demand_1 w).opening n).by_number.never_zero;
  inspecting = λ n c w. of_reply _ ((demand_1 w).inspecting n c).by_number.never_zero;
  striking = λ n w. of_reply _ ((demand_1 w).striking n).by_number.never_zero;
  closing = λ n w. of_reply _ ((demand_1 w).closing n).by_number.never_zero;
  looking = λ n w. of_reply _ ((demand_1 w).looking n).by_number.never_zero;
  tallying = λ w. of_reply _ (demand_1 w).tallying.by_number.never_zero;
  estimating = λ n w. of_reply _ ((demand_1 w).estimating n).by_number.never_zero;
  judging = λ p list. of_reply _ (refused_rightly p list).never_zero;
  chance = λ p w n. of_reply _ (refusal_law p w n).0.never_zero;
  charting = λ p w n. of_reply _ (refusal_law p w n).1.never_zero;
  lot_chance = λ p lot n. of_reply _ (lot_refusal_law p lot n).never_zero;
  units = λ p w n. of_reply _ (units_refusal_law p w n).0.never_zero;
  units_charting = λ p w n. of_reply _ (units_refusal_law p w n).1.never_zero;
}

pub denominator_law : DenominatorLaw
denominator_law n w out = go (estimate n w).reply refl
  where
    go : (r : Result Estimate Refusal) → (estimate n w).reply ≡ r → number (estimate_reply r) ≡ 0 → 1 ≤ word (left (estimate_reply r) out) 3
    go (Ok e) given zero = (estimate_laws.granted n w e given).at_least_one
    go (Err r) given zero = absurd (((demand_1 w).estimating n).by_number.never_zero (ap estimate_reply given ∙ ap refused zero))
