-- What a line keeps of more bytes; a line of which nothing was kept is answered by the rest alone.
use Rattle.std.proofs.Common.{◌≡◌, ap, ℕ, ◌+◌, List, [], ◌∷◌, ◌++◌, length, take, min, arith}
use Rattle.std.proofs.lemmas.Grind.{common_steps}
use Rattle.std.proofs.Math.Seq.{take-append-add}
use Rattle.commandmodel.specs.Printed.{answer}
use Rattle.commandmodel.specs.Blocks.{most_kept, kept}
use Rattle.commandmodel.proofs.Blocks.{kept_law}

pub kept_room : (l b : List ℕ) (r : ℕ) → r + length l ≡ most_kept → kept l b ≡ l ++ take (min r (length b)) b
kept_room l b r h = rw (e, take-append-add l b r) (ap (λ (x : List ℕ). l ++ x) short)
  where
    e : most_kept ≡ length l + r
    e = omega arith

    short : take r b ≡ take (min r (length b)) b
    short = grind (arith, common_steps)

pub kept_rest : (l rest w : List ℕ) → length l ≡ 0 → answer (kept l rest) w ≡ answer rest w
kept_rest [] rest w h = kept_law rest w
kept_rest (b ∷ l) rest w h = absurd (omega arith)
