-- What is true of a call's outcome: where it is refused, and where no row applies. Assumes nothing.
use Prim.Native.Nat.{ℕ}
use mathlib.Core.Path.{◌≡◌, sym, subst}
use mathlib.Core.Logic.{◌⊎◌, inl, inr}
use mathlib.Core.List.{List}
use Rattle.std.specs.declared.result.Result.{Result}
use Rattle.std.specs.declared.result.Result.TheVariants.{Ok, Err}
use Rattle.plan.specs.declared.refusal.Refusal.{Refusal}
use Rattle.plan.specs.Refusal.{Row, first_refusal, First, NoneApplies}
use Rattle.plan.proofs.Refusals.{first_refusals}
use Rattle.sheetmodel.specs.Calls.{Outcome, outcome}

module _ {T : Type 0} (w : List ℕ) (value : T) (words : List ℕ) where
  abbrev refusal : Refusal → Outcome (Result T Refusal)
  refusal r = record { reply = Err r; words = w }

  abbrev grant : Outcome (Result T Refusal)
  grant = record { reply = Ok value; words = words }

  pub refuses : (rows : List Row) (r : Refusal) → First rows r → outcome rows w value words ≡ refusal r
  refuses rows r f = first_refusals.refuses (Outcome (Result T Refusal)) refusal rows grant r f

  pub grants : (rows : List Row) → NoneApplies rows → outcome rows w value words ≡ grant
  grants rows e = first_refusals.grants (Outcome (Result T Refusal)) refusal rows grant e

  module _ (P : Outcome (Result T Refusal) → Type 0) (refusing : (r : Refusal) → P (refusal r)) where
    pub by_rows : (rows : List Row) → (NoneApplies rows → P grant) → P (outcome rows w value words)
    by_rows rows granting = go (first_refusals.either rows)
      where
        go : ((r : Refusal) × First rows r) ⊎ NoneApplies rows → P (outcome rows w value words)
        go (inl f) = subst P (sym (refuses rows f.0 f.1)) (refusing f.0)
        go (inr e) = subst P (sym (grants rows e)) (granting e)

-- the reply alone, seen through f
module _ {T A : Type 0} (f : Result T Refusal → A) (w : List ℕ) (value : T) (words : List ℕ) where
  pub reply_by_rows : (rows : List Row) → f (outcome rows w value words).reply ≡ first_refusal (λ r. f (Err r)) rows (f (Ok value))
  reply_by_rows rows =
      first_refusals.mapped (Outcome (Result T Refusal)) A (λ o. f o.reply) (refusal w value words) rows (grant w value words)
