-- The replies do not depend on how the input is cut into blocks; and what the code takes of a block. Assumes nothing.
use Prim.Native.Nat.{ℕ, zero, suc, ◌≤◌, ◌<◌}
use native.Mathlib.Omega.{arith}
use mathlib.Core.Path.{◌≡◌, refl, ap, sym, ◌∙◌}
use mathlib.Core.Bool.{Bool, true, false, cond}
use Rattle.std.specs.Prelude.{None}
use mathlib.Core.List.{List, [], ◌∷◌, ◌++◌, append_assoc, append-nil}
use lib.ListN.{length, take, length-take}
use lib.Seq.{take_all, length-take-le}
use lib.Dec.{leb, eqb}
use borrow.Author.Tests.{lt-leb, ne_eqb, leb-true, leb-false}
use Rattle.sheetmodel.specs.Calls.{Outcome}
use Rattle.commandmodel.specs.Command.{longest_line, fields, of_fields, command}
use Rattle.commandmodel.specs.Printed.{end_of_line, answered, answer}
use Rattle.commandmodel.specs.Lines.{in_front, lines, replied, answers, session}
use Rattle.commandmodel.specs.Blocks.{most_kept, kept, Fed, byte_fed, after_replies, fed, input_ended, blocks_fed}
use Rattle.commandmodel.specs.Blocks.{joined, BlockLaw, KeptLaw}

-- ---- what is kept of a line

take_front : (n : ℕ) (a y : List ℕ) → take n (take n a ++ y) ≡ take n (a ++ y)
take_front zero a y = refl
take_front (suc n) [] y = refl
take_front (suc n) (x ∷ a) y = ap (λ (s : List ℕ). x ∷ s) (take_front n a y)

pub kept_kept : (l x y : List ℕ) → kept (kept l x) y ≡ kept l (x ++ y)
kept_kept l x y = take_front most_kept (l ++ x) y ∙ ap (take most_kept) (append_assoc l x y)

pub kept_nothing : (l : List ℕ) → length l ≤ most_kept → kept l [] ≡ l
kept_nothing l h = ap (take most_kept) (append-nil l) ∙ take_all most_kept l h

pub kept_within : (l x : List ℕ) → length (kept l x) ≤ most_kept
kept_within l x = omega (arith, length-take most_kept (l ++ x))

-- no longer line is a command
pub kept_law : KeptLaw
unfolding answer command
kept_law line w = go (leb (length line) most_kept) refl
  where
    go : (t : Bool) → leb (length line) most_kept ≡ t
        → answered (cond (leb (length (take most_kept line)) longest_line) (of_fields (fields (take most_kept line)))
        None) w ≡ answered (cond (leb (length line) longest_line) (of_fields (fields line)) None) w
    go true e = rw (take_all most_kept line (leb-true (length line) most_kept e))
    go false e =
        let h : most_kept < length line = leb-false (length line) most_kept e in
        let l : length (take most_kept line) ≡ most_kept = length-take-le most_kept line (omega arith) in
        rw (
          lt-leb (length (take most_kept line)) longest_line (omega arith),
          lt-leb (length line) longest_line
              (omega arith),
        )

-- ---- a block after another

before_before : (x y : List ℕ) (f : Fed) → after_replies x (after_replies y f) ≡ after_replies (x ++ y) f
before_before x y f = ap (λ (r : List ℕ). record { line = f.line; words = f.words; replies = r })
    (sym (append_assoc x y f.replies))

pub fed_append : (l w x y : List ℕ)
    → fed l w (x ++ y) ≡ after_replies (fed l w x).replies (fed (fed l w x).line (fed l w x).words y)
unfolding fed
fed_append l w [] y = refl
fed_append l w (b ∷ bs) y =
    let s : Fed = byte_fed l w b in
    let f : Fed = fed s.line s.words bs in
    ap (after_replies s.replies) (fed_append s.line s.words bs y)
    ∙ before_before s.replies f.replies (fed f.line f.words y)

-- ---- all bytes at once: u has all bytes of the line that has not ended yet

abbrev some_line : List ℕ → List (List ℕ)
some_line [] = []
some_line (b ∷ bs) = (b ∷ bs) ∷ []

-- the lines of u and more bytes, by the lines of these
abbrev begun : List ℕ → List (List ℕ) → List (List ℕ)
begun u [] = some_line u
begun u (l ∷ ls) = (u ++ l) ∷ ls

begun_nothing : (ls : List (List ℕ)) → begun [] ls ≡ ls
begun_nothing [] = refl
begun_nothing (l ∷ ls) = refl

begun_byte : (u : List ℕ) (b : ℕ) (ls : List (List ℕ)) → begun u (in_front b ls) ≡ begun (u ++ (b ∷ [])) ls
begun_byte [] b [] = refl
begun_byte (x ∷ u) b [] = refl
begun_byte u b (l ∷ ls) = ap (λ (m : List ℕ). m ∷ ls) (sym (append_assoc u (b ∷ []) l))

-- what the rest of the input gives after some bytes
abbrev finished : Fed → Outcome (List ℕ)
finished f = replied f.replies (input_ended f.line f.words)

replied_replied : (x y : List ℕ) (o : Outcome (List ℕ)) → replied x (replied y o) ≡ replied (x ++ y) o
replied_replied x y o = ap (λ (r : List ℕ). record { reply = r; words = o.words }) (sym (append_assoc x y o.reply))

finished_after : (x : List ℕ) (f : Fed) → finished (after_replies x f) ≡ replied x (finished f)
finished_after x f = sym (replied_replied x f.replies (input_ended f.line f.words))

ended : (u w : List ℕ) → input_ended (kept [] u) w ≡ answers (some_line u) w
unfolding input_ended answers
ended [] w = refl
ended (b ∷ u) w =
    rw (ne_eqb (length (kept [] (b ∷ u))) 0 (λ q. omega (arith, length-take most_kept (b ∷ u))))
    (kept_law (b ∷ u) w ∙ ap (λ (r : List ℕ). record { reply = r; words = (answer (b ∷ u) w).words })
    (sym (append-nil (answer (b ∷ u) w).reply)))

all_fed : (u w bytes : List ℕ) → finished (fed (kept [] u) w bytes) ≡ answers (begun u (lines bytes)) w
unfolding fed lines answers
all_fed u w [] = ended u w
all_fed u w (b ∷ bs) = go (eqb b end_of_line) (all_fed [] (answer u w).words bs) (all_fed (u ++ (b ∷ [])) w bs)
  where
    go : (t : Bool) → finished (fed [] (answer u w).words bs) ≡ answers (begun [] (lines bs)) (answer u w).words
        → finished (fed (kept [] (u ++ (b ∷ []))) w bs) ≡ answers (begun (u ++ (b ∷ [])) (lines bs)) w
        → finished (let f : Fed = cond t
        (record { line = []; words = (answer (kept [] u) w).words; replies = (answer (kept [] u) w).reply })
        (record { line = kept (kept [] u) (b ∷ []); words = w; replies = [] }) in after_replies f.replies
        (fed f.line f.words bs)) ≡ answers (begun u (cond t ([] ∷ lines bs) (in_front b (lines bs)))) w
    go true e f =
        rw (kept_law u w)
        (finished_after (answer u w).reply (fed [] (answer u w).words bs)
        ∙ ap (replied (answer u w).reply)
        (e ∙ ap (λ (ls : List (List ℕ)). answers ls (answer u w).words) (begun_nothing (lines bs)))
        ∙ ap (λ (l : List ℕ). replied (answer l w).reply (answers (lines bs) (answer l w).words)) (sym (append-nil u)))
    go false e f = ap (λ (l : List ℕ). finished (fed l w bs)) (kept_kept [] u (b ∷ [])) ∙ f
        ∙ ap (λ (ls : List (List ℕ)). answers ls w) (sym (begun_byte u b (lines bs)))

by_blocks : (l w : List ℕ) (blocks : List (List ℕ)) → blocks_fed l w blocks ≡ finished (fed l w (joined blocks))
unfolding blocks_fed fed
by_blocks l w [] = refl
by_blocks l w (b ∷ bs) =
    let f : Fed = fed l w b in
    ap (replied f.replies) (by_blocks f.line f.words bs)
    ∙ sym (finished_after f.replies (fed f.line f.words (joined bs)))
    ∙ ap finished (sym (fed_append l w b (joined bs)))

pub block_law : BlockLaw
unfolding session
block_law blocks w = by_blocks [] w blocks ∙ all_fed [] w (joined blocks)
    ∙ ap (λ (ls : List (List ℕ)). answers ls w) (begun_nothing (lines (joined blocks)))
