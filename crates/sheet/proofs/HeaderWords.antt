-- The header of a fresh sheet, written part by part: the first words, zeros, the plan and the shares. Assumes nothing.
use Prim.Native.Nat.{ℕ, ◌+◌, ◌-◌, ◌/◌, ◌≤◌}
use mathlib.Core.Path.{◌≡◌, refl, sym, ap, ◌∙◌}
use mathlib.Core.Bool.{true}
use mathlib.Core.List.{List, [], ◌∷◌, ◌++◌, append_assoc}
use native.Mathlib.Omega.{arith}
use lib.ListN.{length, set, take, drop, replicate, length-take, length-drop, length-append, length-replicate, replicate-append-replicate}
use lib.Seq.{paste}
use Rattle.plan.specs.Plan.{stages, admitted}
use Rattle.plan.proofs.Promise.{shape}
use Rattle.sheetmodel.specs.Layout.{least_size, header_size, plan_start, shares_start, offices, next_unused, first_lot, first_free, stage_count, first_record}
use Rattle.sheetmodel.specs.Calls.{fresh_words}
use Rattle.sheet.proofs.Pasted.{parted, over}
use borrow.Rule.Slice.PartMut.{put_mid}
use Rattle.std.proofs.lemmas.Slice.{put_mid-paste}

-- the words from the plan to the shares
abbrev pub room : ℕ
room = shares_start - plan_start

abbrev zeros : List ℕ
zeros = replicate room 0

-- the words before the plan: no record used, no lot, no free record, and k stages
abbrev pub first_words : List ℕ → ℕ → List ℕ
first_words w k = set (set (set (set w next_unused first_record) first_lot 0) first_free 0) stage_count k

-- ---- the parts joined

abbrev before_plan : ℕ → List ℕ
before_plan k = first_record ∷ 0 ∷ 0 ∷ k ∷ []

first_written : (w : List ℕ) (k : ℕ) → least_size ≤ length w → first_words w k ≡ before_plan k ++ drop plan_start w
first_written (a ∷ b ∷ c ∷ d ∷ rest) k long = refl
first_written [] k long = absurd (omega arith)
first_written (a ∷ []) k long = absurd (omega arith)
first_written (a ∷ b ∷ []) k long = absurd (omega arith)
first_written (a ∷ b ∷ c ∷ []) k long = absurd (omega arith)

zeros_parted : (n : ℕ) → n ≤ room → zeros ≡ replicate n 0 ++ replicate (shares_start - (plan_start + n)) 0
zeros_parted n b = let m = shares_start - (plan_start + n) in ap (λ (k : ℕ). replicate {A = ℕ} k 0) {x = room} {y = n + m} (omega arith) ∙ sym (replicate-append-replicate n m 0)

module _ (p shares w : List ℕ) (adm : admitted p ≡ true) (sixteen : length shares ≡ offices) (long : least_size ≤ length w) where
  abbrev k : ℕ
  k = length (stages p)

  abbrev after_plan : List ℕ
  after_plan = replicate (shares_start - (plan_start + length p)) 0

  -- the first words, and zeros
  abbrev emptied : List ℕ
  emptied = paste (first_words w k) plan_start zeros room

  emptied_is : emptied ≡ before_plan k ++ (zeros ++ drop shares_start w)
  emptied_is =
      over (before_plan k) (take room (drop plan_start w)) (drop shares_start w) zeros plan_start room
      (first_written w k long ∙ ap (λ (u : List ℕ). before_plan k ++ u) (parted w plan_start room))
      refl (omega (arith, length-take room (drop plan_start w), length-drop plan_start w)) (length-replicate {A = ℕ} room 0)

  abbrev planned : List ℕ
  planned = paste emptied plan_start p (length p)

  planned_is : planned ≡ before_plan k ++ (p ++ (after_plan ++ drop shares_start w))
  planned_is =
      let none : List ℕ = replicate (length p) 0 in
      over (before_plan k) none (after_plan ++ drop shares_start w) p plan_start (length p)
      (emptied_is ∙ ap (λ (u : List ℕ). before_plan k ++ u) (ap (λ (u : List ℕ). u ++ drop shares_start w) (zeros_parted (length p) (let a = shape p adm in omega arith)) ∙ append_assoc none after_plan (drop shares_start w)))
      refl (length-replicate {A = ℕ} (length p) 0) refl

  header_written : paste planned shares_start shares offices ≡ fresh_words p shares w
  unfolding fresh_words
  header_written =
      let front : List ℕ = before_plan k ++ (p ++ after_plan) in
      let a = shape p adm in
      let grouped : (u : List ℕ) → before_plan k ++ (p ++ (after_plan ++ u)) ≡ front ++ u = λ u. ap (λ (l : List ℕ). before_plan k ++ l) (sym (append_assoc p after_plan u)) in
      over front (take offices (drop shares_start w)) (drop header_size w) shares shares_start offices
      (planned_is ∙ grouped (drop shares_start w) ∙ ap (λ (u : List ℕ). front ++ u) (parted w shares_start offices))
      (omega (arith, length-append p after_plan, length-replicate {A = ℕ} (shares_start - (plan_start + length p)) 0))
      (omega (arith, length-take offices (drop shares_start w), length-drop shares_start w)) sixteen ∙
      sym (grouped (shares ++ drop header_size w))

  -- as the code writes it: zeros and the shares take the place of as many words, and the plan stands on zeros
  pub header_put : (zs ss : List ℕ) {v : List ℕ} → zs ≡ zeros →
      v ≡ paste (put_mid plan_start room (first_words w (length p / 5)) zs) plan_start p (length p) → ss ≡ shares →
      put_mid shares_start offices v ss ≡ fresh_words p shares w
  header_put zs ss ez ev es =
      let count_is : length p / 5 ≡ k = omega (arith, (shape p adm).whole) in
      let length_is = sym (length-replicate {A = ℕ} room 0) in
      rw (ev, ez, es, count_is)
      (put_mid-paste shares_start offices _ shares shares offices refl refl (sym sixteen) ∙
      ap (λ (u : List ℕ). paste (paste u plan_start p (length p)) shares_start shares offices)
      (put_mid-paste plan_start room (first_words w k) zeros zeros room refl refl length_is) ∙
      header_written)
