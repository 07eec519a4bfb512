-- Words written one after the other, as `paste` has them: one word more, and the middle of three parts written over. Assumes nothing.
use Prim.Native.Nat.{ℕ, suc, ◌+◌, ◌<◌}
use mathlib.Core.Path.{◌≡◌, sym, ap, ◌∙◌}
use mathlib.Core.List.{List, ◌++◌, append_assoc}
use native.Mathlib.Omega.{arith}
use lib.ListN.{length, set, take, drop, take-append-drop, length-append}
use lib.Seq.{take_all, take_at, drop_at, drop-drop, paste, paste-suc}
use Rattle.sheetmodel.specs.Layout.{word}

-- one word more of s, after its first k
pub one_stored : (d s : List ℕ) (at k m : ℕ) {v : List ℕ} {i x : ℕ} → at + k < length d → k < length s → v ≡ paste d at s k → i ≡ at + k → x ≡ word s k → m ≡ k + 1 → set v i x ≡ paste d at s m
one_stored d s at k m inside there e place value more =
    rw (e, place, value) (paste-suc d at s k 0 inside there ∙ ap (paste d at s) {x = suc k} {y = m} (omega arith))

-- the words of l from a place on: n of them, and those after them
pub parted : (l : List ℕ) (from n : ℕ) → drop from l ≡ take n (drop from l) ++ drop (from + n) l
parted l from n = sym (take-append-drop n (drop from l)) ∙ ap (λ (u : List ℕ). take n (drop from l) ++ u) (drop-drop n from l)

-- the middle of three parts, written over
pub over : (a b c s : List ℕ) (at n : ℕ) {v : List ℕ} → v ≡ a ++ (b ++ c) → length a ≡ at → length b ≡ n → length s ≡ n → paste v at s n ≡ a ++ (s ++ c)
over a b c s at n {v} e la lb ls =
    let front : take at v ≡ a = ap (take at) e ∙ take_at a (b ++ c) at la in
    let all : take n s ≡ s = take_all n s (omega arith) in
    let behind : drop (at + n) v ≡ c = ap (drop (at + n)) (e ∙ sym (append_assoc a b c)) ∙ drop_at (a ++ b) c (at + n) (omega (arith, length-append a b)) in
    rw (front, all, behind) (append_assoc a s c)
