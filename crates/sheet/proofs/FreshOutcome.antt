-- What fresh replies and leaves, by what its code has tested. Assumes nothing.
use Prim.Native.Nat.{ℕ}
use mathlib.Core.Path.{◌≡◌, refl}
use mathlib.Core.Logic.{inl, inr}
use mathlib.Core.Bool.{true, false}
use mathlib.Core.List.{List}
use Rattle.plan.specs.Plan.{admitted}
use Rattle.std.specs.declared.result.Result.TheVariants.{Ok, Err}
use Rattle.plan.specs.declared.refusal.Refusal.TheVariants as refusal
use Rattle.sheetmodel.specs.Layout.{size_ok, word}
use Rattle.sheetmodel.specs.Offices.{shares_fit}
use Rattle.sheetmodel.specs.Calls.{fresh, fresh_rows, fresh_words}
use Rattle.sheetmodel.proofs.ForSheet.{refuses, grants}

module _ (p shares w : List ℕ) where
  pub wrong_size : size_ok w ≡ false → fresh p shares w ≡ record { reply = Err refusal.Size; words = w }
  unfolding fresh fresh_rows
  wrong_size z = refuses w tt (fresh_words p shares w) (fresh_rows p shares w) refusal.Size (inl (rw z refl, refl))

  pub not_admitted : size_ok w ≡ true → admitted p ≡ false → fresh p shares w ≡ record { reply = Err refusal.Plan; words = w }
  unfolding fresh fresh_rows
  not_admitted z e = refuses w tt (fresh_words p shares w) (fresh_rows p shares w) refusal.Plan (inr (rw z refl, inl (rw e refl, refl)))

  pub too_many_shares : size_ok w ≡ true → admitted p ≡ true → shares_fit (word shares) w ≡ false → fresh p shares w ≡ record { reply = Err refusal.Shares; words = w }
  unfolding fresh fresh_rows
  too_many_shares z e f = refuses w tt (fresh_words p shares w) (fresh_rows p shares w) refusal.Shares (inr (rw z refl, inr (rw e refl, inl (rw f refl, refl))))

  pub granted : size_ok w ≡ true → admitted p ≡ true → shares_fit (word shares) w ≡ true → fresh p shares w ≡ record { reply = Ok tt; words = fresh_words p shares w }
  unfolding fresh fresh_rows
  granted z e f = grants w tt (fresh_words p shares w) (fresh_rows p shares w) (rw z refl, (rw e refl, (rw f refl, tt)))
