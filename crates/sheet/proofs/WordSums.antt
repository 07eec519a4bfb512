-- Words added up one by one, zeros among them, and the words of a part. Assumes nothing.
use Prim.Native.Nat.{ℕ, zero, suc, ◌+◌, ◌≤◌, ◌<◌}
use mathlib.Core.Path.{◌≡◌, refl, ap, ◌∙◌}
use mathlib.Core.Bool.{Bool, ◌&&◌}
use mathlib.Core.List.{List, [], ◌∷◌}
use native.Mathlib.Omega.{arith}
use native.Mathlib.Decide.{dec_lt}
use lib.ListN.{length, take, drop, length-take, length-drop}
use lib.Seq.{get_or-take, get_or-drop}
use Rattle.std.proofs.Common.{sum_by}
use Rattle.std.proofs.lemmas.List.Sums.{sum_by-cons}
use lib.Dec.{eqb}
use borrow.Author.Tests.{eq-eqb, ne_eqb}
use Rattle.sheetmodel.specs.Layout.{word}
use Rattle.sheetmodel.specs.Offices.{added_up}
use Rattle.sheetmodel.specs.Read.{all_zero}
use Rattle.sheetmodel.proofs.ForSheet.{sum_same}

pub one_more : (f : ℕ → ℕ) (n sum : ℕ) → sum ≡ added_up n f → sum + f n ≡ added_up (n + 1) f
unfolding added_up
one_more f n sum e = let k : n + 1 ≡ suc n = omega arith in rw k (omega arith)

pub no_words : (f : ℕ → ℕ) → 0 ≡ added_up 0 f
unfolding added_up
no_words f = refl

from_first : (n : ℕ) (f : ℕ → ℕ) → added_up (suc n) f ≡ f 0 + added_up n (λ o. f (suc o))
unfolding added_up
from_first zero f = omega arith
from_first (suc n) f = omega (arith, from_first n f)

-- the sum of a list
pub summed : (l : List ℕ) → sum_by (λ (x : ℕ). x) l ≡ added_up (length l) (word l)
unfolding added_up
summed [] = refl
summed (x ∷ l) = omega (arith, sum_by-cons (λ (y : ℕ). y) x l, summed l, from_first (length l) (word (x ∷ l)))

-- ---- zeros

both_zero : (a b : ℕ) → eqb (a + b) 0 ≡ (eqb a 0 && eqb b 0)
both_zero a b = go (dec_lt 0 a) (dec_lt 0 b)
  where
    go : Dec (0 < a) → Dec (0 < b) → eqb (a + b) 0 ≡ (eqb a 0 && eqb b 0)
    go (yes l) d = rw (ne_eqb a 0 (λ e. omega arith), ne_eqb (a + b) 0 (λ e. omega arith))
    go (no l) (yes k) = rw (eq-eqb a 0 (omega arith), ne_eqb b 0 (λ e. omega arith), ne_eqb (a + b) 0 (λ e. omega arith))
    go (no l) (no k) = rw (eq-eqb a 0 (omega arith), eq-eqb b 0 (omega arith), eq-eqb (a + b) 0 (omega arith))

-- words add to 0 where all of them are 0, and nowhere else
pub zero_sum : (l : List ℕ) → eqb (added_up (length l) (word l)) 0 ≡ all_zero l
zero_sum [] = rw (← no_words (word [])) refl
zero_sum (x ∷ l) =
    ap (λ (n : ℕ). eqb n 0) (from_first (length l) (word (x ∷ l))) ∙
    both_zero x (added_up (length l) (word l)) ∙
    ap (λ (b : Bool). eqb x 0 && b) (zero_sum l)

-- ---- a part of some words

pub part_sum : (w : List ℕ) (from n : ℕ) → from + n ≤ length w →
    added_up (length (take n (drop from w))) (word (take n (drop from w))) ≡ added_up n (λ o. word w (from + o))
part_sum w from n b =
    let part : List ℕ = take n (drop from w) in
    let long : length part ≡ n = omega (arith, length-take n (drop from w), length-drop from w) in
    ap (λ (k : ℕ). added_up k (word part)) long ∙
    sum_same n (word part) (λ o. word w (from + o)) (λ o l. get_or-take n (drop from w) o 0 l ∙ get_or-drop from w o 0)
