-- A carried sheet, written part by part: the header's indexes, its stages and totals, the shares, and the records one by one. Assumes
-- nothing.
use Prim.Native.Nat.{ℕ, suc, ◌+◌, ◌-◌, ◌*◌, ◌≤◌, ◌<◌}
use mathlib.Core.Path.{◌≡◌, refl, sym, ap, ◌∙◌}
use mathlib.Core.List.{List, [], ◌∷◌, ◌++◌, append_assoc}
use native.Mathlib.Omega.{arith}
use lib.ListN.{length, set, take, drop, length-take, length-drop, length-append}
use lib.Seq.{paste}
use Rattle.sheetmodel.specs.Layout.{word, field, put_record, next_unused, first_lot, first_free, stage_count, plan_start, shares_start, header_size, offices, old_first_record}
use Rattle.sheetmodel.specs.Carry.{raised, carried_header, carried_records, carry_words}
use Rattle.sheetmodel.proofs.ForSheet.{as_carried, header_length, raised_length, raised_word}
use Rattle.sheet.specs.Carrying.{Carrying}
use Rattle.sheet.proofs.Pasted.{one_stored, parted, over}
use borrow.Rule.Slice.PartMut.{put_mid}
use Rattle.std.proofs.lemmas.List.{drop_more}
use Rattle.std.proofs.lemmas.Slice.{put_mid-paste}

-- ---- records in the making

-- w with the old records before record j, each four later
abbrev pub raised_to : List ℕ → List ℕ → ℕ → List ℕ
raised_to w old j = paste w header_size (carried_records old) (4 * (j - old_first_record))

module _ (w old : List ℕ) (ready : Carrying old w) (j : ℕ) (low : old_first_record ≤ j) (high : j < word old next_unused) where
  abbrev i : ℕ
  i = j - old_first_record

  abbrev n : ℕ
  n = word old next_unused - old_first_record

  stored : {v : List ℕ} (f : ℕ) → f < 4 → v ≡ paste w header_size (carried_records old) (4 * i + f) →
      set v (4 * (j + 4) + f) (as_carried f (field old j f)) ≡ paste w header_size (carried_records old) (4 * i + (f + 1))
  stored f b e =
      one_stored w (carried_records old) header_size (4 * i + f) (4 * i + (f + 1)) (omega (arith, ready.room)) (omega (arith, raised_length old old_first_record n)) e (omega arith)
      (ap (λ (q : ℕ). as_carried f (field old q f)) {x = j} {y = old_first_record + i} (omega arith) ∙ sym (raised_word old old_first_record n i f (omega arith) b)) (omega arith)

  pub one_raised : {v : List ℕ} → v ≡ raised_to w old j →
      put_record v (j + 4) (field old j 0) (raised (field old j 1)) (raised (field old j 2)) (field old j 3) ≡ raised_to w old (j + 1)
  unfolding put_record
  one_raised e =
      stored 3 (omega arith) (stored 2 (omega arith) (stored 1 (omega arith) (stored 0 (omega arith) (e ∙ ap (paste w header_size (carried_records old)) {x = 4 * i} {y = 4 * i + 0} (omega arith))))) ∙
      ap (paste w header_size (carried_records old)) {x = 4 * i + (3 + 1)} {y = 4 * (j + 1 - old_first_record)} (omega arith)

-- ---- the header

-- the next record never used, the first lot and the first free record
abbrev with_indexes : List ℕ → List ℕ → List ℕ
with_indexes w old =
    set (set (set w next_unused (word old next_unused + 4)) first_lot (raised (word old first_lot)))
    first_free (raised (word old first_free))

-- and the number of stages
abbrev pub first_words : List ℕ → List ℕ → List ℕ
first_words w old = set (with_indexes w old) stage_count (word old stage_count)

abbrev indexes : List ℕ → List ℕ
indexes old = (word old next_unused + 4) ∷ raised (word old first_lot) ∷ raised (word old first_free) ∷ []

abbrev before_stages : List ℕ → List ℕ
before_stages old = indexes old ++ (word old stage_count ∷ [])

first_written : (w old : List ℕ) → plan_start ≤ length w → first_words w old ≡ before_stages old ++ drop plan_start w
first_written (a ∷ b ∷ c ∷ d ∷ rest) old long = refl
first_written [] old long = absurd (omega arith)
first_written (a ∷ []) old long = absurd (omega arith)
first_written (a ∷ b ∷ []) old long = absurd (omega arith)
first_written (a ∷ b ∷ c ∷ []) old long = absurd (omega arith)

module _ (old shares w : List ℕ) (sixteen : length shares ≡ offices) (ready : Carrying old w) where
  -- the words of the stages and of the totals
  abbrev room : ℕ
  room = shares_start - plan_start

  abbrev kept : List ℕ
  kept = take room (drop plan_start old)

  kept_length : length kept ≡ room
  kept_length = omega (arith, ready.long, length-take room (drop plan_start old), length-drop plan_start old)

  count_and_kept : word old stage_count ∷ kept ≡ take (suc room) (drop stage_count old)
  count_and_kept = ap (take (suc room)) (sym (drop_more old stage_count 0 (omega (arith, ready.long))))

  stages_written : paste (first_words w old) plan_start kept room ≡ carried_header old ++ drop shares_start w
  stages_written =
      let last : List ℕ = drop shares_start w in
      let there = length-take room (drop plan_start w) in
      over (before_stages old) (take room (drop plan_start w)) last kept plan_start room
      (first_written w old (omega (arith, ready.room)) ∙
      ap (λ (u : List ℕ). before_stages old ++ u) (parted w plan_start room))
      refl (omega (arith, ready.room, ready.begun, there, length-drop plan_start w)) kept_length ∙
      ap (λ (u : List ℕ). indexes old ++ (u ++ last)) count_and_kept

  abbrev written : List ℕ
  written = carried_header old ++ (shares ++ drop header_size w)

  header_written : paste (paste (first_words w old) plan_start kept room) shares_start shares offices ≡ written
  header_written =
      let there = length-take offices (drop shares_start w) in
      over (carried_header old) (take offices (drop shares_start w)) (drop header_size w) shares shares_start offices
      (stages_written ∙ ap (λ (u : List ℕ). carried_header old ++ u) (parted w shares_start offices))
      (header_length old ready.long) (omega (arith, ready.room, ready.begun, there, length-drop shares_start w)) sixteen

  -- as the code writes it: the shares take the place of as many words
  pub header_put : (ss : List ℕ) → ss ≡ shares →
      put_mid shares_start offices (paste (first_words w old) plan_start kept (length kept)) ss ≡ written
  header_put ss es =
      rw (es, kept_length)
      (put_mid-paste shares_start offices _ shares shares offices refl refl (sym sixteen) ∙ header_written)

  -- ---- the records after it

  pub records_written : {v : List ℕ} → v ≡ carried_header old ++ (shares ++ drop header_size w) →
      paste v header_size (carried_records old) (length (carried_records old)) ≡ carry_words old shares w
  unfolding carry_words
  records_written e =
      let n = length (carried_records old) in
      let front : List ℕ = carried_header old ++ shares in
      let is : n ≡ 4 * (word old next_unused - old_first_record) = raised_length old old_first_record (word old next_unused - old_first_record) in
      over front (take n (drop header_size w)) (drop (header_size + n) w) (carried_records old) header_size n
      (e ∙ sym (append_assoc (carried_header old) shares (drop header_size w)) ∙ ap (λ (u : List ℕ). front ++ u) (parted w header_size n))
      (omega (arith, length-append (carried_header old) shares, header_length old ready.long))
      (omega (arith, ready.room, ready.begun, length-take n (drop header_size w), length-drop header_size w)) refl ∙
      append_assoc (carried_header old) shares (carried_records old ++ drop (header_size + n) w) ∙
      ap (λ (k : ℕ). carried_header old ++ (shares ++ (carried_records old ++ drop k w))) {x = header_size + n} {y = 4 * (word old next_unused + 4)} (omega (arith, ready.begun))
