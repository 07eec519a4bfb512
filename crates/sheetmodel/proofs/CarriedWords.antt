-- The words that carry leaves, word by word. Assumes nothing.
use Prim.Native.Nat.{ℕ, zero, suc, ◌+◌, ◌-◌, ◌*◌, ◌≤◌, ◌<◌}
use mathlib.Core.Path.{◌≡◌, refl, ap, ◌∙◌}
use mathlib.Core.Bool.{cond}
use mathlib.Core.List.{List, [], ◌∷◌, ◌++◌}
use native.Mathlib.Omega.{arith}
use lib.ListN.{length, get_or, take, drop, length-append, length-take, length-drop, get_or-append}
use lib.Seq.{get_or-take, get_or-drop}
use lib.Dec.{eqb}
use Rattle.sheetmodel.specs.Layout.{word, field, records, next_unused, first_lot, first_free, shares_start, header_size, offices, share, old_least_size, old_first_record}
use Rattle.sheetmodel.specs.Carry.{raised, raised_records, carried_header, carried_records, carry_words}
use Rattle.sheetmodel.proofs.Words.{word_past}

-- field f of a record, once carried
abbrev pub as_carried : ℕ → ℕ → ℕ
as_carried f x = cond (eqb f 0) x (cond (eqb f 3) x (raised x))

pub raised_length : (w : List ℕ) (j n : ℕ) → length (raised_records w j n) ≡ 4 * n
unfolding raised_records
raised_length w j zero = refl
raised_length w j (suc n) = omega (arith, raised_length w (j + 1) n)

pub raised_word : (w : List ℕ) (j n i f : ℕ) → i < n → f < 4 → word (raised_records w j n) (4 * i + f) ≡ as_carried f (field w (j + i) f)
unfolding raised_records
raised_word w j zero i f b k = absurd (omega arith)
raised_word w j (suc n) zero f b k = first f k
  where
    here : j ≡ j + 0
    here = omega arith

    first : (f : ℕ) → f < 4 → word (raised_records w j (suc n)) (4 * 0 + f) ≡ as_carried f (field w (j + 0) f)
    first zero k = ap (λ (q : ℕ). field w q 0) here
    first (suc zero) k = ap (λ (q : ℕ). raised (field w q 1)) here
    first (suc (suc zero)) k = ap (λ (q : ℕ). raised (field w q 2)) here
    first (suc (suc (suc zero))) k = ap (λ (q : ℕ). field w q 3) here
    first (suc (suc (suc (suc f)))) k = absurd (omega arith)
raised_word w j (suc n) (suc i) f b k =
    let here : List ℕ = field w j 0 ∷ raised (field w j 1) ∷ raised (field w j 2) ∷ field w j 3 ∷ [] in
    ap (word (raised_records w j (suc n))) {x = 4 * suc i + f} {y = 4 + (4 * i + f)} (omega arith) ∙ word_past here (raised_records w (j + 1) n) 4 (4 * i + f) refl ∙
    raised_word w (j + 1) n i f (omega arith) k ∙ ap (λ (q : ℕ). as_carried f (field w q f)) {x = j + 1 + i} {y = j + suc i} (omega arith)

pub header_length : (old : List ℕ) → old_least_size ≤ length old → length (carried_header old) ≡ shares_start
header_length old long = omega (arith, length-take 41 (drop 3 old), length-drop 3 old)

module _ (old shares w : List ℕ) (long : old_least_size ≤ length old) (sixteen : length shares ≡ offices)
    (begun : old_first_record ≤ word old next_unused) (fits : word old next_unused + 4 ≤ records w) where
  abbrev new : List ℕ
  new = carry_words old shares w

  abbrev in_use : ℕ
  in_use = word old next_unused - old_first_record

  abbrev tail : List ℕ
  tail = drop (4 * (word old next_unused + 4)) w

  pub carried_length : length new ≡ length w
  unfolding carry_words
  carried_length =
      omega (
        arith,
        header_length old long,
        length-append (carried_header old) (shares ++ (carried_records old ++ tail)),
        length-append shares (carried_records old ++ tail),
        length-append (carried_records old) tail,
        raised_length old old_first_record in_use,
        length-drop (4 * (word old next_unused + 4)) w,
      )

  pub header_kept : (i : ℕ) → 3 ≤ i → i < shares_start → word new i ≡ word old i
  unfolding carry_words
  header_kept i low high =
      let k = i - 3 in
      let three : List ℕ = (word old next_unused + 4) ∷ raised (word old first_lot) ∷ raised (word old first_free) ∷ [] in
      get_or-append (carried_header old) (shares ++ (carried_records old ++ tail)) 0 i (omega (arith, header_length old long)) ∙ ap (word (carried_header old)) {x = i} {y = 3 + k} (omega arith) ∙
      word_past three (take 41 (drop 3 old)) 3 k refl ∙ get_or-take 41 (drop 3 old) k 0 (omega arith) ∙ get_or-drop 3 old k 0 ∙ ap (word old) {x = 3 + k} {y = i} (omega arith)

  from_shares : (k : ℕ) → word new (shares_start + k) ≡ word (shares ++ (carried_records old ++ tail)) k
  unfolding carry_words
  from_shares k = word_past (carried_header old) (shares ++ (carried_records old ++ tail)) shares_start k (header_length old long)

  from_records : (k : ℕ) → word new (header_size + k) ≡ word (carried_records old ++ tail) k
  from_records k = ap (word new) {x = header_size + k} {y = shares_start + (offices + k)} (omega arith) ∙ from_shares (offices + k) ∙ word_past shares (carried_records old ++ tail) offices k sixteen

  pub carried_share : (o : ℕ) → o < offices → share new o ≡ get_or shares o 0
  carried_share o b = from_shares o ∙ get_or-append shares (carried_records old ++ tail) 0 o (omega arith)

  pub carried_field : (q f : ℕ) → old_first_record ≤ q → q < word old next_unused → f < 4 → field new (q + 4) f ≡ as_carried f (field old q f)
  carried_field q f low high k =
      let i = q - old_first_record in
      ap (word new) {x = 4 * (q + 4) + f} {y = header_size + (4 * i + f)} (omega arith) ∙ from_records (4 * i + f) ∙
      get_or-append (carried_records old) tail 0 (4 * i + f) (omega (arith, raised_length old old_first_record in_use)) ∙ raised_word old old_first_record in_use i f (omega arith) k ∙
      ap (λ (n : ℕ). as_carried f (field old n f)) {x = old_first_record + i} {y = q} (omega arith)

  pub carried_past : (i : ℕ) → 4 * (word old next_unused + 4) ≤ i → word new i ≡ word w i
  carried_past i low =
      let n = 4 * in_use in
      let k = i - 4 * (word old next_unused + 4) in
      ap (word new) {x = i} {y = header_size + (n + k)} (omega arith) ∙ from_records (n + k) ∙
      word_past (carried_records old) tail n k (raised_length old old_first_record in_use) ∙ get_or-drop (4 * (word old next_unused + 4)) w k 0 ∙
      ap (word w) {x = 4 * (word old next_unused + 4) + k} {y = i} (omega arith)
