-- Bytes written into others from a place on, and what a function that prints a reply leaves.
use Rattle.std.specs.Prelude.{ℕ, ◌+◌, ◌≤◌, ◌≡◌, List, ◌++◌, length, take, drop}
use Rattle.sheetmodel.specs.Calls.{Outcome}

unfoldable pub written : List ℕ → ℕ → List ℕ → List ℕ
written out at bytes = take at out ++ (bytes ++ drop (at + length bytes) out)

-- r bytes of reply in `out`, whose other bytes stay as they are, and the words
pub record Gives (o : Outcome (List ℕ)) (out : List ℕ) (r : ℕ) (out' w' : List ℕ) : Type 0 where
  pub count : r ≡ length o.reply
  pub within : r ≤ length out
  pub bytes : out' ≡ written out 0 o.reply
  pub left : w' ≡ o.words
