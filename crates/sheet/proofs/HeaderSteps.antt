-- The header's tests, as the code makes them. Assumes nothing.
use Prim.Native.Nat.{ℕ, zero, suc, ◌+◌, ◌-◌, ◌*◌, ◌≤◌, ◌<◌}
use mathlib.Core.Path.{◌≡◌, refl, sym, ap, ◌∙◌}
use mathlib.Core.Bool.{Bool, true, false, true≢false}
use native.Mathlib.Decide.{dec_lt}
use mathlib.Core.List.{List, [], ◌∷◌}
use native.Mathlib.Omega.{arith}
use lib.ListN.{length, take, drop, length-take, length-drop}
use lib.Seq.{drop-drop}
use Rattle.plan.specs.Plan.{admitted}
use Rattle.plan.proofs.Promise.{shape}
use Rattle.sheetmodel.specs.Layout.{shares_start, word, stage_count, plan_start, plan_room, accepted_lots, plan_words, unused_stages}

take_nil : (n : ℕ) → take {A = ℕ} n [] ≡ []
take_nil zero = refl
take_nil (suc n) = refl

-- a part of a list's beginning
drop_take : (k m : ℕ) (l : List ℕ) → drop k (take m l) ≡ take (m - k) (drop k l)
drop_take zero m l = let n : m - 0 ≡ m = omega arith in rw n
drop_take (suc k) zero l = let n : 0 - suc k ≡ 0 = omega arith in rw n
drop_take (suc k) (suc m) [] = sym (take_nil (suc m - suc k))
drop_take (suc k) (suc m) (x ∷ l) = let n : suc m - suc k ≡ m - k = omega arith in rw n (drop_take k m l)

module _ (w : List ℕ) (low : shares_start ≤ length w) where
  -- more than seven stages are no plan
  pub too_many : 7 < word w stage_count → admitted (plan_words w) ≡ false
  too_many l = go (admitted (plan_words w)) refl
    where
      go : (b : Bool) → admitted (plan_words w) ≡ b → b ≡ false
      go true e =
          let s = shape (plan_words w) e in
          absurd (omega (arith, s.whole, s.seven_stages, length-take (5 * word w stage_count) (drop plan_start w), length-drop plan_start w))
      go false e = refl

  pub few_stages : admitted (plan_words w) ≡ true → word w stage_count ≤ 7
  few_stages e = elim (dec_lt 7 (word w stage_count)) [ yes l ↦ absurd (true≢false (sym e ∙ too_many l)) | no l ↦ omega arith ]

  -- the unused stages after the plan, as the code hands them on
  pub unused_part : (end : ℕ) → end ≡ plan_start + 5 * word w stage_count → take (accepted_lots - end) (drop end w) ≡ unused_stages w
  unused_part end e =
      let k : ℕ = 5 * word w stage_count in
      let m : accepted_lots - end ≡ plan_room - k = omega arith in
      let n : end ≡ plan_start + k = omega arith in
      rw (m, n) (sym (drop_take k plan_room (drop plan_start w) ∙ ap (take (plan_room - k)) (drop-drop k plan_start w)))

-- the unused stages have no more words than all stages
pub few_unused : (w : List ℕ) → length (unused_stages w) ≤ plan_room
few_unused w = omega (arith, length-drop (5 * word w stage_count) (take plan_room (drop plan_start w)), length-take plan_room (drop plan_start w))
