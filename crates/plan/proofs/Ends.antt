-- The first answer of a plan's stages, from what holds at each stage's end.
-- Assumes nothing.
use Prim.Native.Nat.{ℕ, ◌+◌, ◌-◌, ◌≤◌, ◌<◌}
use mathlib.Core.Path.{◌≡◌, refl, ap₂, ◌∙◌}
use mathlib.Core.Logic.{◌≢◌, ◌⊎◌, inl, inr}
use mathlib.Core.List.{List, [], ◌∷◌}
use native.Mathlib.Omega.{arith}
use native.Mathlib.Decide.{dec_lt}
use lib.ListN.{length}
use borrow.Author.Tests.{lt-ltb, le-ltb, le-leb, lt-leb}
use Rattle.plan.specs.declared.counts.Counts.{Counts}
use Rattle.plan.specs.declared.stage.Answer.{Answer}
use Rattle.plan.specs.declared.stage.Answer.TheVariants.{GoOn, Accept, Reject}
use Rattle.plan.specs.declared.stage.Stage.{Stage}
use Rattle.plan.specs.Plan.{total, End}
use Rattle.plan.specs.Counts.{units, add_units}
use Rattle.plan.specs.Stopping.{or_else, at_end, first_answer, at_filled, current}
use Rattle.plan.specs.Promise.{rank}
use Rattle.plan.proofs.Order.{or_else_mono}

-- P holds at the end of each stage
abbrev pub Each : (ℕ → Stage → Type 0) → ℕ → List Stage → Type 0
Each P before [] = Unit {0}
Each P before (s ∷ rest) = P (before + s.size) s × Each P (before + s.size) rest

module _ (P Q : ℕ → Stage → Type 0) (f : (end : ℕ) (s : Stage) → P end s → Q end s) where
  pub each_map : (before : ℕ) (p : List Stage) → Each P before p → Each Q before p
  each_map before [] a = tt
  each_map before (s ∷ rest) a = (f _ s a.0, each_map (before + s.size) rest a.1)

pub each_end : (Q : ℕ → Type 0) (before : ℕ) (p : List Stage) → ((e : ℕ) → End before p e → Q e) → Each (λ end s. Q end) before p
unfolding End
each_end Q before [] f = tt
each_end Q before (s ∷ rest) f = (f _ (inl refl), each_end Q (before + s.size) rest (λ e m. f e (inr m)))

module _ (P Q R : ℕ → Stage → Type 0) (f : (end : ℕ) (s : Stage) → P end s → Q end s → R end s) where
  pub each_both : (before : ℕ) (p : List Stage) → Each P before p → Each Q before p → Each R before p
  each_both before [] a b = tt
  each_both before (s ∷ rest) a b = (f _ s a.0 b.0, each_both (before + s.size) rest a.1 b.1)

module _ (P : ℕ → Stage → Type 0) (f g : ℕ → Stage → Answer) where
  pub first_mono : ((end : ℕ) (s : Stage) → P end s → rank (f end s) ≤ rank (g end s))
      → (before : ℕ) (p : List Stage) → Each P before p → rank (first_answer f before p) ≤ rank (first_answer g before p)
  unfolding first_answer
  first_mono m before [] e = omega arith
  first_mono m before (s ∷ rest) e =
      or_else_mono (f (before + s.size) s) (g (before + s.size) s) _ _ (m _ s e.0) (first_mono m (before + s.size) rest e.1)

  pub first_same : ((end : ℕ) (s : Stage) → P end s → f end s ≡ g end s)
      → (before : ℕ) (p : List Stage) → Each P before p → first_answer f before p ≡ first_answer g before p
  unfolding first_answer
  first_same m before [] e = refl
  first_same m before (s ∷ rest) e = ap₂ or_else (m _ s e.0) (first_same m (before + s.size) rest e.1)

-- an answer that does not go on comes first
pub or_else_first : (v later : Answer) → v ≢ GoOn → or_else v later ≡ v
unfolding or_else
or_else_first GoOn later n = absurd (n refl)
or_else_first Accept later n = refl
or_else_first Reject later n = refl

-- where no stage answers, none does
pub first_on : (before : ℕ) (p : List Stage) → first_answer (λ end s. GoOn) before p ≡ GoOn
unfolding or_else first_answer
first_on before [] = refl
first_on before (s ∷ rest) = first_on (before + s.size) rest

-- the first stage that ends after u units or more rejects, and those before it went on
abbrev pub RejectsFrom : ℕ → (ℕ → Stage → Answer) → ℕ → Stage → Type 0
RejectsFrom u f end s = (end < u → f end s ≡ GoOn) × (u ≤ end → f end s ≡ Reject)

pub first_rejects : (u : ℕ) (f : ℕ → Stage → Answer) (before : ℕ) (p : List Stage) → Each (RejectsFrom u f) before p
    → (before < u) ⊎ (1 ≤ length p) → u ≤ before + total p → first_answer f before p ≡ Reject
unfolding total or_else first_answer
first_rejects u f before [] e (inl l) n = absurd (omega arith)
first_rejects u f before [] e (inr l) n = absurd (omega arith)
first_rejects u f before (s ∷ rest) e l n = go (dec_lt (before + s.size) u) (λ k. first_rejects u f (before + s.size) rest e.1 (inl k) (omega arith))
  where
    go : Dec (before + s.size < u) → (before + s.size < u → first_answer f (before + s.size) rest ≡ Reject)
        → or_else (f (before + s.size) s) (first_answer f (before + s.size) rest) ≡ Reject
    go (yes k) later = rw (e.0.0 k) (later k)
    go (no k) later = rw (e.0.1 (omega arith))

-- ---- a way at the current stage

module _ (way : ℕ → Stage → Counts → Answer) where
  module _ (before : ℕ) (s : Stage) (rest : List Stage) (c : Counts) where
    pub current_here : units c ≤ before + s.size → current way before (s ∷ rest) c ≡ way (before + s.size) s c
    unfolding current
    current_here l = rw (le-leb (units c) (before + s.size) l)

    pub current_later : before + s.size < units c → current way before (s ∷ rest) c ≡ current way (before + s.size) rest c
    unfolding current
    current_later l = rw (lt-leb (units c) (before + s.size) l)

  pub current_past : (before : ℕ) (p : List Stage) (c : Counts) → before + total p < units c → current way before p c ≡ GoOn
  unfolding total current
  current_past before [] c l = refl
  current_past before (s ∷ rest) c l = current_later before s rest c (omega arith) ∙ current_past (before + s.size) rest c (omega arith)

-- ---- an end where further units have one class: it is past, or due

module _ (class : ℕ) (c : Counts) (end : ℕ) (s : Stage) where
  pub end_past : end < units c → at_filled class c end s ≡ GoOn
  unfolding at_filled
  end_past l = rw (lt-ltb end (units c) l)

  pub end_due : units c ≤ end → at_filled class c end s ≡ at_end s (add_units class (end - units c) c)
  unfolding at_filled
  end_due l = rw (le-ltb end (units c) l)

  pub end_case : (Q : Answer → Type 0) → (end < units c → Q GoOn) → (units c ≤ end → Q (at_end s (add_units class (end - units c) c))) → Q (at_filled class c end s)
  end_case Q f g = elim (dec_lt end (units c)) [ yes l ↦ rw (end_past l) (f l) | no l ↦ rw (end_due (omega arith)) (g (omega arith)) ]
