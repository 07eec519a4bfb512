-- The row 17 of `lot_chance`, and demand 1 of the call.
-- Assumes nothing.
use Prim.Native.Nat.{ℕ, ◌≤◌, ◌<◌}
use mathlib.Core.Path.{◌≡◌, refl}
use mathlib.Core.Logic.{inl, inr}
use mathlib.Core.Bool.{true, false}
use mathlib.Core.List.{List}
use lib.ListN.{length}
use lib.Dec.{ltb}
use Rattle.std.proofs.Math.Bool.{or-true}
use mathlib.Core.Logic.{◌⊎◌}
use borrow.Author.Tests.{lt-ltb, le-ltb}
use native.Mathlib.Omega.{arith}
use Rattle.plan.specs.Plan.{stages, total}
use Rattle.plan.specs.Refusal.{FirstNumber}
use Rattle.chance.specs.declared.mean.Weights.{Weights}
use Rattle.chance.specs.Bounds.{weight_sum}
use Rattle.chance.specs.Lot.{lot_row, lot_refusals, lot_answer}
use Rattle.chance.specs.LotLaws.{LotRefusalLaw, LotWeightsLaw, LotWordsLaw}
use Rattle.chance.proofs.Replies.{kept_all, bounds_refused}

module _ (plan : List ℕ) (lot : Weights) where
  pub undrawable : (weight_sum lot < total (stages plan)) ⊎ (1000000 < weight_sum lot) → (lot_row plan lot).when ≡ true
  undrawable (inl h) = rw (lt-ltb (weight_sum lot) (total (stages plan)) h)
  undrawable (inr h) = rw (lt-ltb 1000000 (weight_sum lot) h) (or-true (ltb (weight_sum lot) (total (stages plan))))

  pub drawable : total (stages plan) ≤ weight_sum lot → weight_sum lot ≤ 1000000 → (lot_row plan lot).when ≡ false
  drawable l h = rw (le-ltb (weight_sum lot) (total (stages plan)) l, le-ltb 1000000 (weight_sum lot) h)

-- ---- demand 1

pub lot_refusal_law : LotRefusalLaw
unfolding lot_answer
lot_refusal_law plan lot n = bounds_refused (lot_refusals plan lot n) _ refl

pub lot_weights_law : LotWeightsLaw
lot_weights_law plan lot n e = go (((lot_refusal_law plan lot n).exactly 13).0 e)
  where
    go : FirstNumber (lot_refusals plan lot n) 13 → ⊥
    go (inl f) = omega (arith, f.1)
    go (inr (f, inl g)) = omega (arith, g.1)
    go (inr (f, inr (g, inl h))) = omega (arith, h.1)
    go (inr (f, inr (g, inr h))) = absurd h.1

pub lot_words_law : LotWordsLaw
lot_words_law plan lot before after = kept_all (lot_refusals plan lot (length before)) plan before after
