-- What a call knows of a record that is needed, by the reply of the rows about it. Assumes nothing.
use mathlib.Core.Path.{◌≡◌}
use mathlib.Core.Logic.{◌⊎◌, inl, inr}
use mathlib.Core.List.{List}
use Rattle.std.specs.declared.result.Result.{Result}
use Rattle.std.specs.declared.result.Result.TheVariants.{Ok, Err}
use Rattle.plan.specs.declared.refusal.Refusal.{Refusal}
use Rattle.plan.specs.Refusal.{Row, First, NoneApplies}
use Rattle.plan.proofs.Refusals.{refused_exactly, first_refusals}
use Rattle.sheet.specs.Granting.{grant_by}

abbrev Granted : Type 0
Granted = Result (Unit {0}) Refusal

module _ (rows : List Row) where
  pub denying : (r : Refusal) → First rows r → grant_by rows ≡ Err r
  denying r f = first_refusals.refuses Granted Err rows (Ok tt) r f

  pub giving : NoneApplies rows → grant_by rows ≡ Ok tt
  giving e = first_refusals.grants Granted Err rows (Ok tt) e

  pub denied : (r : Refusal) → grant_by rows ≡ Err r → First rows r
  denied r e = (refused_exactly Granted Err rows (Ok tt) (λ i j d. cc) (λ i d. cc) r).0 e

  pub given : (u : Unit {0}) → grant_by rows ≡ Ok u → NoneApplies rows
  given u e = go (first_refusals.either rows)
    where
      go : ((r : Refusal) × First rows r) ⊎ NoneApplies rows → NoneApplies rows
      go (inl x) = let d = denying x.0 x.1 in absurd (cc)
      go (inr x) = x
