-- The value of a sample, by the plan's promises.
-- Assumes nothing.
use Prim.Native.Nat.{ℕ, ◌+◌, ◌*◌}
use mathlib.Core.Path.{◌≡◌, refl}
use mathlib.Core.List.{List, [], ◌∷◌, ◌++◌, append_assoc}
use lib.ListN.{length, length-append}
use native.Mathlib.Omega.{arith}
use Rattle.plan.specs.declared.counts.Counts.{Counts}
use Rattle.plan.specs.declared.stage.Answer.{Answer}
use Rattle.plan.specs.declared.stage.Answer.TheVariants.{GoOn, Accept, Reject}
use Rattle.plan.specs.declared.stage.Stage.{Stage}
use Rattle.plan.specs.Plan.{total}
use Rattle.plan.specs.Counts.{add_units, counts}
use Rattle.plan.specs.Stopping.{earliest}
use Rattle.plan.specs.Sample.{Classes, verdict}
use Rattle.plan.specs.Promise.{History, Promise}
use Rattle.plan.proofs.Promise.{counting, histories}
use Rattle.plan.proofs.Sample.{classing}
use Rattle.chance.specs.declared.mean.Weights.{Weights}
use Rattle.chance.specs.Bounds.{terminal, sequence_value}
use Rattle.chance.specs.Chance.{scale, chance_value, indicator}

module _ (p : List Stage) (promise : Promise p) (weights : Counts → Weights) where
  -- the value of a complete sample that begins with the history h: the whole scale if it is accepted
  pub sample_value : (x h : List ℕ) → History p h → Classes x → length h + length x ≡ total p
      → sequence_value (chance_value p weights) (counts h) x ≡ scale * indicator (verdict p (h ++ x))
  sample_value [] h k b e = go (earliest p (counts h)) refl
    where
      go : (a : Answer) → earliest p (counts h) ≡ a → terminal (chance_value p weights) a 0 ≡ scale * indicator (verdict p (h ++ []))
      go GoOn d = absurd (promise.decided h k (omega arith) d)
      go Accept d = rw ((promise.accepted h k).0 d (h ++ []) ((histories p).completion h [] k.classes b e))
      go Reject d = rw ((promise.rejected h k).0 d (h ++ []) ((histories p).completion h [] k.classes b e))
  sample_value (x ∷ xs) h k b e =
      go (earliest p (counts h)) refl
      (λ d. sample_value xs (h ++ (x ∷ [])) ((histories p).one_unit_more h x (classing.first x xs b) k d) (classing.rest x xs b) (omega (arith, length-append h (x ∷ []))))
    where
      go : (a : Answer) → earliest p (counts h) ≡ a
          → (earliest p (counts h) ≡ GoOn → sequence_value (chance_value p weights) (counts (h ++ (x ∷ []))) xs ≡ scale * indicator (verdict p ((h ++ (x ∷ [])) ++ xs)))
          → terminal (chance_value p weights) a (0 + sequence_value (chance_value p weights) (add_units x 1 (counts h)) xs) ≡ scale * indicator (verdict p (h ++ (x ∷ xs)))
      go GoOn d next = omega (arith, rw (counting.one_more h x, append_assoc) at (next d))
      go Accept d next = rw ((promise.accepted h k).0 d (h ++ (x ∷ xs)) ((histories p).completion h (x ∷ xs) k.classes b e))
      go Reject d next = rw ((promise.rejected h k).0 d (h ++ (x ∷ xs)) ((histories p).completion h (x ∷ xs) k.classes b e))
