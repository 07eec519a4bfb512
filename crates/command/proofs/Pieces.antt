-- A block taken line by line: what is fed and how much is taken up to the next byte 10.
use Rattle.std.proofs.Common.{◌≡◌, ◌∙◌, refl, ap, sym, ℕ, suc, ◌+◌, ◌-◌, ◌<◌, ◌≤◌, Bool, true, false, cond, eqb, List}
use Rattle.std.proofs.Common.{[], ◌∷◌, ◌++◌, length, get_or, take, drop, append_assoc, append-nil, length-append}
use Rattle.std.proofs.Common.{length-take, add-one, arith}
use Rattle.std.proofs.Math.Seq.{take-append-add, drop-cons}
use borrow.Author.Tests.{lt-leb, le-leb, eqb-true, ltb-false}
use Rattle.std.specs.Prelude.{None, Some, position, ltb, nat_lt}
use Rattle.std.specs.List.{position_or_len}
use Rattle.std.proofs.lemmas.List.Quantifiers.{position-Some}
use Rattle.std.proofs.lemmas.List.Sums.{fails_before_first}
use Rattle.std.proofs.lemmas.List.{take-append-drop}
use Rattle.std.proofs.lemmas.Grind.{common_steps}
use Rattle.sheetmodel.specs.Calls.{Outcome}
use Rattle.commandmodel.specs.Printed.{end_of_line, longest_reply, answer}
use Rattle.commandmodel.specs.Blocks.{most_kept, kept, Fed, after_replies, fed, taken}
use Rattle.commandmodel.proofs.Blocks.{kept_law, kept_kept, kept_nothing, kept_within, fed_append}
use Rattle.commandmodel.proofs.Laws.{line_laws}
use Rattle.command.specs.declared.taking.Taken.{Taken}
use Rattle.command.specs.Written.{written}
use Rattle.command.specs.Taking.{Left, Progress}
use Rattle.command.proofs.Writing.{length_written, written_more, written_nothing}

-- no byte is 10
abbrev pub Inside : List ℕ → Type 0
Inside s = (k : ℕ) → k < length s → eqb (get_or s k 0) end_of_line ≡ false

inside_tail : (b : ℕ) (s : List ℕ) → Inside (b ∷ s) → Inside s
inside_tail b s h = λ k l. h (suc k) (omega arith)

-- ---- where the first byte 10 stands

abbrev pub ends_line : ℕ → Bool
ends_line b = eqb b end_of_line

module _ (rest : List ℕ) where
  pub no_end : position ends_line rest ≡ None → Inside rest
  no_end e = λ k h. fails_before_first ends_line rest k 0 (omega (arith, past))
    where
      past : length rest ≤ position_or_len ends_line rest
      past = go (nat_lt (position_or_len ends_line rest) (length rest)) refl e
        where
          go : (t : Bool) → ltb (position_or_len ends_line rest) (length rest) ≡ t
              → cond t (Some (position_or_len ends_line rest)) None ≡ None
              → length rest ≤ position_or_len ends_line rest
          go true h q = let z : ◌≡◌ {A = ℕ} 0 1 = cc in absurd (omega arith)
          go false h q = ltb-false (position_or_len ends_line rest) (length rest) h

  module _ (end : ℕ) (e : position ends_line rest ≡ Some end) where
    pub end_within : end < length rest
    end_within = (position-Some ends_line rest end 0 e).0

    pub cut_line : rest ≡ (take end rest ++ (end_of_line ∷ [])) ++ drop (end + 1) rest
    cut_line =
        let at : get_or rest end 0 ≡ end_of_line = eqb-true (get_or rest end 0) end_of_line
        (position-Some ends_line rest end 0 e).1 in
        let h : end < length rest = end_within in
        sym (take-append-drop end rest)
        ∙ ap (λ (x : List ℕ). take end rest ++ x)
        (drop-cons rest end 0 h ∙ (λ i. at i ∷ drop (sym (add-one end) i) rest))
        ∙ sym (append_assoc (take end rest) (end_of_line ∷ []) (drop (end + 1) rest))

    pub inside_line : Inside (take end rest)
    inside_line = λ k h.
        let l : k < end = omega (arith, length-take end rest) in
        let f : get_or (take end rest) k 0 ≡ get_or rest k 0 = grind (arith, common_steps) in
        rw f ((position-Some ends_line rest end 0 e).2 k l)

-- ---- what is fed

piece_kept : (l w s : List ℕ) → Inside s → length l ≤ most_kept
    → fed l w s ≡ record { line = kept l s; words = w; replies = [] }
unfolding fed
piece_kept l w [] inside h = ap (λ (m : List ℕ). record { line = m; words = w; replies = [] }) (sym (kept_nothing l h))
piece_kept l w (b ∷ bs) inside h =
    rw (inside 0 (omega arith))
    (ap (after_replies []) (piece_kept (kept l (b ∷ [])) w bs (inside_tail b bs inside) (kept_within l (b ∷ [])))
    ∙ ap (λ (m : List ℕ). record { line = m; words = w; replies = [] }) (kept_kept l (b ∷ []) bs))

pub piece_fed : (l w s : List ℕ) → Inside s → 1 ≤ length s
    → fed l w s ≡ record { line = kept l s; words = w; replies = [] }
unfolding fed
piece_fed l w [] inside some = absurd (omega arith)
piece_fed l w (b ∷ bs) inside some =
    rw (inside 0 (omega arith))
    (ap (after_replies []) (piece_kept (kept l (b ∷ [])) w bs (inside_tail b bs inside) (kept_within l (b ∷ [])))
    ∙ ap (λ (m : List ℕ). record { line = m; words = w; replies = [] }) (kept_kept l (b ∷ []) bs))

-- a line is answered by what is kept of it
same_answer : (l w : List ℕ) → answer l w ≡ answer (kept l []) w
same_answer l w = sym (ap (λ (m : List ℕ). answer (take most_kept m) w) (append-nil l) ∙ kept_law l w)

abbrev ends : List ℕ → List ℕ → Fed
ends l w = record { line = []; words = (answer l w).words; replies = (answer l w).reply }

end_fed : (l w : List ℕ) → fed l w (end_of_line ∷ []) ≡ ends l w
unfolding fed
end_fed l w = ap (λ (r : List ℕ). record { line = []; words = (answer l w).words; replies = r })
    (append-nil (answer l w).reply)

pub line_fed : (l w s : List ℕ) → Inside s → fed l w (s ++ (end_of_line ∷ [])) ≡ ends (kept l s) w
line_fed l w [] inside = end_fed l w
    ∙ ap (λ (a : Outcome (List ℕ)). record { line = []; words = a.words; replies = a.reply }) (same_answer l w)
line_fed l w (b ∷ bs) inside =
    fed_append l w (b ∷ bs) (end_of_line ∷ [])
    ∙ ap (λ (f : Fed). after_replies f.replies (fed f.line f.words (end_of_line ∷ [])))
    (piece_fed l w (b ∷ bs) inside (omega arith))
    ∙ end_fed (kept l (b ∷ bs)) w

-- ---- how many bytes are taken

pub no_room : (room : ℕ) (l w s : List ℕ) → room < longest_reply → taken room l w s ≡ 0
unfolding taken
no_room room l w [] h = refl
no_room room l w (b ∷ bs) h = rw (lt-leb longest_reply room h)

pub no_byte : (room : ℕ) (l w : List ℕ) → taken room l w [] ≡ 0
unfolding taken
no_byte room l w = refl

less_none : (room : ℕ) → room - 0 ≡ room
less_none room = omega arith

pub taken_piece : (room : ℕ) (l w s : List ℕ) → Inside s → longest_reply ≤ room → taken room l w s ≡ length s
unfolding taken
taken_piece room l w [] inside h = refl
taken_piece room l w (b ∷ bs) inside h =
    rw (le-leb longest_reply room h, inside 0 (omega arith), less_none)
    (ap suc (taken_piece room (kept l (b ∷ [])) w bs (inside_tail b bs inside) h))

pub taken_line : (room : ℕ) (l w s rest : List ℕ) → Inside s → longest_reply ≤ room
    → taken room l w (s ++ (end_of_line ∷ rest))
    ≡ suc (length s) + taken (room - length (answer (kept l s) w).reply) [] (answer (kept l s) w).words rest
unfolding taken
taken_line room l w [] rest inside h =
    rw (le-leb longest_reply room h)
    (ap (λ (a : Outcome (List ℕ)). suc (taken (room - length a.reply) [] a.words rest)) (same_answer l w)
    ∙ one (taken (room - length (answer (kept l []) w).reply) [] (answer (kept l []) w).words rest))
  where
    one : (k : ℕ) → suc k ≡ 1 + k
    one k = omega arith
taken_line room l w (b ∷ bs) rest inside h =
    rw (le-leb longest_reply room h, inside 0 (omega arith), less_none)
    (ap suc (taken_line room (kept l (b ∷ [])) w bs rest (inside_tail b bs inside) h)
    ∙ ap (λ (m : List ℕ). suc (suc (length bs) + taken (room - length (answer m w).reply) [] (answer m w).words rest))
    (kept_kept l (b ∷ []) bs)
    ∙ one (length bs) (taken (room - length (answer (kept l (b ∷ bs)) w).reply) [] (answer (kept l (b ∷ bs)) w).words
    rest))
  where
    one : (j k : ℕ) → suc (suc j + k) ≡ suc (suc j) + k
    one j k = omega arith

pub taken_some : (room : ℕ) (l w s : List ℕ) → longest_reply ≤ room → 1 ≤ length s → 1 ≤ taken room l w s
unfolding taken
taken_some room l w [] h some = omega arith
taken_some room l w (b ∷ bs) h some = rw (le-leb longest_reply room h) (omega arith)

-- ---- the loop over the lines of a block: `rest` is left, and `used` bytes of replies are written

pub record Taking (block line₀ sheet₀ replies₀ line sheet replies : List ℕ) (used : ℕ) (rest : List ℕ) : Type 0 where
  pub before : List ℕ
  pub split : block ≡ before ++ rest
  pub printed : List ℕ
  pub so_far : fed line₀ sheet₀ before ≡ record { line = line; words = sheet; replies = printed }
  pub count : used ≡ length printed
  pub inside : used ≤ length replies₀
  pub bytes : replies ≡ written replies₀ 0 printed
  pub number : taken (length replies₀) line₀ sheet₀ block
      ≡ length before + taken (length replies₀ - used) line sheet rest

module _ (block line₀ sheet₀ replies₀ : List ℕ) where
  pub begins : Taking block line₀ sheet₀ replies₀ line₀ sheet₀ replies₀ 0 block
  unfolding fed
  begins = record {
    before = [];
    split = refl;
    printed = [];
    so_far = refl;
    count = refl;
    inside = omega arith;
    bytes = written_nothing replies₀;
    number = omega (arith, ap (λ (k : ℕ). taken k line₀ sheet₀ block) (less_none (length replies₀)));
  }

  module _ (line sheet replies : List ℕ) (used : ℕ) (rest : List ℕ)
      (t : Taking block line₀ sheet₀ replies₀ line sheet replies used rest) where
    pub within : length t.before + length rest ≡ length block
    within = omega (arith, ap length t.split, length-append t.before rest)

    pub same_length : length replies ≡ length replies₀
    same_length = ap length t.bytes ∙ length_written replies₀ 0 t.printed (omega (arith, t.count, t.inside))

    -- nothing more is taken
    pub stopped : (r : Taken) → r.bytes ≡ length block - length rest → r.replies ≡ used
        → taken (length replies₀ - used) line sheet rest ≡ 0
        → (r.bytes ≡ taken (length replies₀) line₀ sheet₀ block)
        × Left (fed line₀ sheet₀ (take r.bytes block)) replies₀ r line sheet replies × Progress block replies₀ r
    stopped r e u none = (
      all,
      rw (ended, t.so_far)
          (record { line_bytes = refl; words = refl; reply_length = u ∙ t.count; reply_bytes = t.bytes }),
      record {
        bytes_within = omega arith;
        replies_within = omega (arith, u, t.inside);
        some_byte = λ roomy some. omega (arith, all, taken_some (length replies₀) line₀ sheet₀ block roomy some);
      },
    )
      where
        all : r.bytes ≡ taken (length replies₀) line₀ sheet₀ block
        all = omega (arith, t.number, within)

        count : r.bytes ≡ length t.before + 0
        count = omega (arith, within)

        ended : take r.bytes block ≡ t.before
        ended = (λ i. take (count i) (t.split i)) ∙ take-append-add t.before rest 0 ∙ append-nil t.before

    fed_more : (piece : List ℕ) → fed line₀ sheet₀ (t.before ++ piece) ≡ after_replies t.printed (fed line sheet piece)
    fed_more piece = fed_append line₀ sheet₀ t.before piece
        ∙ ap (λ (f : Fed). after_replies f.replies (fed f.line f.words piece)) t.so_far

    -- the rest does not end the line
    pub kept_rest : longest_reply ≤ length replies₀ - used → Inside rest → 1 ≤ length rest → (line' : List ℕ)
        → line' ≡ kept line rest
        → Taking block line₀ sheet₀ replies₀ line' sheet replies used []
    kept_rest roomy inside some line' e = record {
      before = t.before ++ rest;
      split = t.split ∙ sym (append-nil (t.before ++ rest));
      printed = t.printed;
      so_far = fed_more rest ∙ ap (after_replies t.printed) (piece_fed line sheet rest inside some)
          ∙ (λ i. record { line = sym e i; words = sheet; replies = append-nil t.printed i });
      count = t.count;
      inside = t.inside;
      bytes = t.bytes;
      number = omega (
        arith,
        t.number,
        length-append t.before rest,
        taken_piece (length replies₀ - used) line sheet rest inside roomy,
        no_byte (length replies₀ - used) line' sheet,
      );
    }

    -- the line ends with these bytes, and its reply is written after those before
    pub answered_line : longest_reply ≤ length replies₀ - used → (text rest' : List ℕ)
        → rest ≡ (text ++ (end_of_line ∷ [])) ++ rest' → Inside text
        → (line' sheet' reply replies' : List ℕ) (used' : ℕ) → line' ≡ []
        → sheet' ≡ (answer (kept line text) sheet).words → reply ≡ (answer (kept line text) sheet).reply
        → replies' ≡ written replies used reply → used' ≡ used + length reply
        → Taking block line₀ sheet₀ replies₀ line' sheet' replies' used' rest'
    answered_line roomy text rest' cut inside line' sheet' reply replies' used' l s p r u = record {
      before = t.before ++ (text ++ (end_of_line ∷ []));
      split = t.split ∙ ap (λ (x : List ℕ). t.before ++ x) cut
          ∙ sym (append_assoc t.before (text ++ (end_of_line ∷ [])) rest');
      printed = t.printed ++ reply;
      so_far =
          fed_more (text ++ (end_of_line ∷ [])) ∙ ap (after_replies t.printed) (line_fed line sheet text inside)
          ∙ (λ i. record { line = sym l i; words = sym s i; replies = t.printed ++ sym p i });
      count = omega (arith, u, t.count, length-append t.printed reply);
      inside = omega (arith, u, short, t.inside);
      bytes =
          r ∙ (λ i. written (t.bytes i) (place i) reply)
          ∙ written_more replies₀ 0 t.printed (omega (arith, t.count, t.inside)) reply
          (omega (arith, short, t.count, t.inside));
      number =
          t.number ∙ ap (λ (x : List ℕ). length t.before + taken (length replies₀ - used) line sheet x)
          (cut ∙ append_assoc text (end_of_line ∷ []) rest')
          ∙ ap (λ (k : ℕ). length t.before + k)
          (taken_line (length replies₀ - used) line sheet text rest' inside roomy)
          ∙ counted (taken (length replies₀ - used - length (answer (kept line text) sheet).reply) []
          (answer (kept line text) sheet).words rest')
          ∙ (λ i. length (t.before ++ (text ++ (end_of_line ∷ []))) + taken (room_left i) (sym l i) (sym s i) rest');
    }
      where
        counted : (k : ℕ) → length t.before + (suc (length text) + k) ≡ length
            (t.before ++ (text ++ (end_of_line ∷ []))) + k
        counted k = omega (
          arith,
          length-append t.before (text ++ (end_of_line ∷ [])),
          length-append text
              (end_of_line ∷ []),
        )

        short : length reply ≤ longest_reply
        short = omega (arith, ap length p, (line_laws (kept line text) sheet).longest)

        place : used ≡ 0 + length t.printed
        place = omega (arith, t.count)

        room_left : length replies₀ - used - length (answer (kept line text) sheet).reply ≡ length replies₀ - used'
        room_left = omega (arith, ap length p, u)
