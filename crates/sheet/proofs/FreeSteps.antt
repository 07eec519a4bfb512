-- One step along the chain of free records, as the code takes it. Assumes nothing.
use Prim.Native.Nat.{ℕ, zero, suc, ◌-◌, ◌<◌}
use mathlib.Core.Path.{◌≡◌, refl, sym, ap, ◌∙◌}
use mathlib.Core.Bool.{Bool, true, false}
use mathlib.Core.Option.{Option, none, some}
use mathlib.Core.List.{List, [], ◌∷◌}
use native.Mathlib.Omega.{arith}
use native.Mathlib.Decide.{dec_lt}
use lib.Dec.{eqb}
use borrow.Author.Tests.{eq-eqb, ne_eqb}
use Rattle.std.specs.Prelude.{Some, None}
use Rattle.sheetmodel.specs.Layout.{word, field, next, first_free}
use Rattle.sheetmodel.specs.Read.{guard, then, in_use, depth, read_free}
use Rattle.sheetmodel.specs.Rows.{is_some}
use Rattle.sheet.specs.Survey.{is_free, free_of}
use Rattle.sheetmodel.proofs.ForSheet.{sound_free}

one_free : (at : ℕ) (o : Option (List ℕ)) → is_some (then o (λ js. some (at ∷ js))) ≡ is_some o
one_free at none = refl
one_free at (some js) = refl

none_free : (b : Bool) → is_some (guard {A = List ℕ} b (λ ok. some [])) ≡ b
none_free true = refl
none_free false = refl

module _ (first : ℕ) (w : List ℕ) where
  pub ended : (n at : ℕ) → n ≡ 0 → is_some (read_free first w n at) ≡ eqb at 0
  unfolding read_free
  ended n at e = rw e (none_free (eqb at 0))

  step : (n at : ℕ) → 0 < n → read_free first w n at ≡ guard (is_free first w n at) (λ ok. then (read_free first w (n - 1) (next w at)) (λ js. some (at ∷ js)))
  unfolding read_free
  step zero at l = absurd (omega arith)
  step (suc n) at l = let m : suc n - 1 ≡ n = omega arith in rw m

  pub not_free : (n at : ℕ) → 0 < n → is_free first w n at ≡ false → is_some (read_free first w n at) ≡ false
  not_free n at l e = rw (step n at l, e)

  pub next_free : (n at : ℕ) → 0 < n → is_free first w n at ≡ true → is_some (read_free first w n at) ≡ is_some (read_free first w (n - 1) (next w at))
  next_free n at l e = rw (step n at l, e) (one_free at (read_free first w (n - 1) (next w at)))

  -- ---- the whole chain

  pub depth_is : (word w first_free ≡ 0 → ⊥) → depth w ≡ field w (word w first_free) 0
  unfolding depth
  depth_is n = rw (ne_eqb (word w first_free) 0 n)

  pub cut : (n at : ℕ) → is_some (read_free first w n at) ≡ false → free_of (read_free first w n at) ≡ None
  cut n at = go (read_free first w n at)
    where
      go : (o : Option (List ℕ)) → is_some o ≡ false → free_of o ≡ None
      go none e = refl
      go (some js) e = cc

  pub whole_of : (n at : ℕ) → is_some (read_free first w n at) ≡ true → free_of (read_free first w n at) ≡ Some n
  whole_of n at = go (read_free first w n at) refl
    where
      go : (o : Option (List ℕ)) → read_free first w n at ≡ o → is_some o ≡ true → free_of o ≡ Some n
      go none e f = cc
      go (some js) e f = ap Some (sym (sound_free first w n at js e).1)

  pub not_used : (word w first_free ≡ 0 → ⊥) → in_use first w (word w first_free) ≡ false → free_of (read_free first w (depth w) (word w first_free)) ≡ None
  not_used z e = cut (depth w) (word w first_free) (go (depth w) (dec_lt 0 (depth w)))
    where
      go : (n : ℕ) → Dec (0 < n) → is_some (read_free first w n (word w first_free)) ≡ false
      go n (yes l) = not_free n (word w first_free) l (rw e)
      go n (no l) = ended n (word w first_free) (omega arith) ∙ ne_eqb (word w first_free) 0 z

  depth_none : word w first_free ≡ 0 → depth w ≡ 0
  unfolding depth
  depth_none e = rw (eq-eqb (word w first_free) 0 e)

  pub no_free : word w first_free ≡ 0 → free_of (read_free first w (depth w) (word w first_free)) ≡ Some 0
  no_free e = rw (depth_none e) (whole_of 0 (word w first_free) (ended 0 (word w first_free) refl ∙ eq-eqb (word w first_free) 0 e))
