-- Laws of lists beyond the library's, for all crates. Assumes nothing.
use Prim.Native.Nat.{ℕ, ◌+◌, ◌<◌}
use native.Mathlib.Numerals.{add-one}
use mathlib.Core.Path.{◌≡◌, ap, sym, ◌∙◌}
use mathlib.Core.List.{List, ◌∷◌}
use lib.ListN.{length, get_or, drop}
use lib.Seq.{drop-cons}

-- the element at i, and those after it
pub drop_next : (xs : List ℕ) (i : ℕ) → i < length xs → drop i xs ≡ get_or xs i 0 ∷ drop (i + 1) xs
drop_next xs i h = drop-cons xs i 0 h ∙ ap (λ (j : ℕ). get_or xs i 0 ∷ drop j xs) (sym (add-one i))
