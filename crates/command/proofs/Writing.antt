-- Bytes written one after another.
use Rattle.std.proofs.Common.{◌≡◌, ◌∙◌, refl, ap, sym, ℕ, ◌+◌, ◌≤◌, List, [], ◌++◌, length, take, drop, append_assoc}
use Rattle.std.proofs.Common.{length-append, length-drop, arith}
use Rattle.std.proofs.Math.Seq.{take_all, take_at, drop-append-add, drop-drop, length-take-le}
use Rattle.std.proofs.lemmas.Slice.{put_mid-paste}
use borrow.Rule.Slice.PartMut.{put_mid}
use Rattle.command.specs.Written.{written}

module _ (out : List ℕ) (at : ℕ) (x : List ℕ) where
  -- as the code writes them: they take the place of as many bytes
  pub put_written : (k : ℕ) → k ≡ length x → (y : List ℕ) → y ≡ x → put_mid at k out y ≡ written out at x
  unfolding written
  put_written k e y f =
      put_mid-paste at k out y x (length x) f (sym e) (omega arith)
      ∙ ap (λ (u : List ℕ). take at out ++ u ++ drop (at + length x) out) (take_all (length x) x (omega arith))
      ∙ append_assoc (take at out) x (drop (at + length x) out)

  module _ (fits : at + length x ≤ length out) where
    pub length_written : length (written out at x) ≡ length out
    unfolding written
    length_written = simp (length-append, length-drop) (omega (arith, length-take-le at out (omega arith)))

    head_length : length (take at out ++ x) ≡ at + length x
    head_length = simp length-append (omega (arith, length-take-le at out (omega arith)))

    -- bytes more after them
    pub written_more : (y : List ℕ) → at + length x + length y ≤ length out
        → written (written out at x) (at + length x) y ≡ written out at (x ++ y)
    unfolding written
    written_more y more =
        let h : List ℕ = take at out ++ x in
        let rest : List ℕ = drop (at + length x) out in
        ap (λ (w : List ℕ). take (at + length x) w ++ (y ++ drop (at + length x + length y) w))
        (sym (append_assoc (take at out) x rest))
        ∙ ap (λ (p : List ℕ). p ++ (y ++ drop (at + length x + length y) (h ++ rest)))
        (take_at h rest (at + length x) head_length)
        ∙ ap (λ (q : List ℕ). h ++ (y ++ q)) (
        ap (λ (k : ℕ). drop (k + length y) (h ++ rest)) (sym head_length) ∙ drop-append-add h rest (length y)
        ∙ drop-drop (length y) (at + length x) out
        ∙ ap (λ (k : ℕ). drop k out) {x = at + length x + length y} {y = at + length (x ++ y)} (omega (arith, length-append x y))
        )
        ∙ append_assoc (take at out) x (y ++ drop (at + length (x ++ y)) out)
        ∙ ap (λ (q : List ℕ). take at out ++ q) (sym (append_assoc x y (drop (at + length (x ++ y)) out)))

pub written_nothing : (out : List ℕ) → out ≡ written out 0 []
unfolding written
written_nothing out = refl
