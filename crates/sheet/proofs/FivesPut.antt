-- Words put five at a time, from the plan on. Assumes nothing.
use Prim.Native.Nat.{ℕ, ◌+◌, ◌≤◌, ◌<◌, ◌%◌}
use mathlib.Core.Path.{◌≡◌, refl, ap, ◌∙◌}
use mathlib.Core.List.{List}
use native.Mathlib.Omega.{arith}
use lib.ListN.{length, set, take, drop, length-drop}
use lib.Seq.{drop-drop, get_or-drop, get_or-take, paste, paste-zero, length-paste}
use Rattle.sheetmodel.specs.Layout.{plan_start, word}
use Rattle.sheet.proofs.Pasted.{one_stored}

-- v is w with the words of s from the plan on, but for those of `rest`, which are to stand from `place` on
pub record Put (w s rest v : List ℕ) (place : ℕ) : Type 0 where
  pub put : ℕ
  pub within : put ≤ length s
  pub next : place ≡ plan_start + put
  pub left : rest ≡ drop put s
  pub whole : length rest % 5 ≡ 0
  pub words : v ≡ paste w plan_start s put

pub none_put : (w s : List ℕ) → length s % 5 ≡ 0 → Put w s s w plan_start
none_put w s whole =
    record { put = 0; within = omega arith; next = refl; left = refl; whole = whole; words = paste-zero w plan_start s }

module _ {w s rest v : List ℕ} {place : ℕ} (p : Put w s rest v place) where
  -- w with the first n words of s
  abbrev with_first : ℕ → List ℕ
  with_first n = paste w plan_start s n

  lengths : length s ≡ p.put + length rest
  lengths = omega (arith, ap length p.left, length-drop p.put s, p.within)

  module _ (room : plan_start + length s ≤ length w) {five later : List ℕ} (f : five ≡ take 5 rest)
      (l : later ≡ drop 5 rest) (fewer : length later + 5 ≡ length rest) where
    pub five_fits : place + 5 ≤ length v
    five_fits =
        let same = length-paste w plan_start s p.put (omega (arith, room, p.within)) p.within in
        omega (arith, ap length p.words, same, p.next, room, lengths, fewer)

    stored : (j : ℕ) {u : List ℕ} {i : ℕ} → j < 5 → u ≡ with_first (p.put + j) → i ≡ place + j →
        set u i (word five j) ≡ with_first (p.put + (j + 1))
    stored j b e at =
        let is : word five j ≡ word s (p.put + j) =
        ap (λ (t : List ℕ). word t j) f ∙ get_or-take 5 rest j 0 b ∙
        ap (λ (t : List ℕ). word t j) p.left ∙ get_or-drop p.put s j 0 in
        one_stored w s plan_start (p.put + j) (p.put + (j + 1)) (omega (arith, room, lengths, fewer))
        (omega (arith, lengths, fewer)) e (omega (arith, p.next, at)) is (omega arith)

    abbrev after_two : List ℕ
    after_two = set (set v place (word five 0)) (place + 1) (word five 1)

    abbrev after_five : List ℕ
    after_five = set (set (set after_two (place + 2) (word five 2)) (place + 3) (word five 3)) (place + 4) (word five 4)

    two : after_two ≡ with_first (p.put + 2)
    two =
        let none : v ≡ with_first (p.put + 0) = p.words ∙ ap with_first {x = p.put} {y = p.put + 0} (omega arith) in
        stored 1 (omega arith) (stored 0 (omega arith) none (omega arith)) refl

    pub five_more : Put w s later after_five (place + 5)
    five_more = record {
      put = p.put + 5;
      within = omega (arith, lengths, fewer);
      next = omega (arith, p.next);
      left = l ∙ ap (drop 5) p.left ∙ drop-drop 5 p.put s;
      whole = omega (arith, p.whole, fewer);
      words = stored 4 (omega arith) (stored 3 (omega arith) (stored 2 (omega arith) two refl) refl) refl;
    }

  pub all_put : length rest < 5 → v ≡ with_first (length s)
  all_put few = p.words ∙ ap with_first {x = p.put} {y = length s} (omega (arith, p.whole, lengths))
