-- The first place where an answer does not go on, if there is one before a bound.
-- Assumes nothing.
use Prim.Native.Nat.{ℕ, zero, suc, ◌<◌}
use mathlib.Core.Path.{◌≡◌, refl, sym, ap, ◌∙◌}
use mathlib.Core.Logic.{◌≢◌, ◌⊎◌, inl, inr}
use native.Mathlib.Omega.{arith}
use native.Mathlib.Decide.{dec_lt}
use Rattle.plan.specs.declared.stage.Answer.{Answer}
use Rattle.plan.specs.declared.stage.Answer.TheVariants.{GoOn, Accept, Reject}
use Rattle.plan.proofs.Answers.{accept_stops, reject_stops}

abbrev pub Never : (ℕ → Answer) → ℕ → Type 0
Never f n = (z : ℕ) → z < n → f z ≡ GoOn

pub record First (f : ℕ → Answer) (n : ℕ) : Type 0 where
  pub at : ℕ
  pub before : at < n
  pub stops : f at ≢ GoOn
  pub never : Never f at

pub first : (f : ℕ → Answer) (n : ℕ) → Never f n ⊎ First f n
first f zero = inl (λ z l. absurd (omega arith))
first f (suc n) = go (first f n) (f n) refl
  where
    go : Never f n ⊎ First f n → (a : Answer) → f n ≡ a → Never f (suc n) ⊎ First f (suc n)
    go (inr t) a e = inr (record { at = t.at; before = omega arith; stops = t.stops; never = t.never })
    go (inl o) GoOn e = inl (λ z l. elim (dec_lt z n) [ yes k ↦ o z k | no k ↦ ap f (omega arith) ∙ e ])
    go (inl o) Accept e = inr (record { at = n; before = omega arith; stops = λ g. accept_stops (sym e ∙ g); never = o })
    go (inl o) Reject e = inr (record { at = n; before = omega arith; stops = λ g. reject_stops (sym e ∙ g); never = o })
