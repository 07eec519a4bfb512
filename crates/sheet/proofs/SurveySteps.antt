-- What the walk over the lots finds is the lot of the number, and the whole survey is by the walks. Assumes nothing.
use Prim.Native.Nat.{ℕ, ◌+◌, ◌≤◌, ◌<◌}
use mathlib.Core.Path.{◌≡◌, refl, sym, ap, ap₂, ◌∙◌}
use mathlib.Core.Bool.{Bool, true, false, cond, ◌&&◌, and-false, and-true}
use mathlib.Core.Option.{Option, none, some}
use mathlib.Core.List.{List, [], ◌∷◌}
use native.Mathlib.Nat.{add-zero}
use native.Mathlib.Omega.{arith}
use native.Mathlib.Decide.{dec_lt}
use lib.ListN.{length}
use lib.Dec.{eqb}
use borrow.Author.Tests.{lt-ltb, le-ltb, eq-eqb, ne_eqb}
use Rattle.plan.specs.declared.stage.Stage.{Stage}
use Rattle.plan.specs.Plan.{stages}
use Rattle.plan.specs.Counts.{units, counts}
use Rattle.std.specs.Prelude.{Some, None}
use Rattle.std.specs.Prelude as std
use Rattle.sheet.specs.declared.survey.Found.{Found}
use Rattle.sheetmodel.specs.Layout.{word, records, next_unused, first_lot, first_free, plan_words}
use Rattle.sheetmodel.specs.Contents.{Lot, Contents, classes, records_of, find}
use Rattle.sheetmodel.specs.Holds.{Lots}
use Rattle.sheetmodel.specs.Read.{guard, then, depth, read_lots, read_free, all_undecided_before, header_ok, contents_ok, read_from}
use Rattle.sheetmodel.specs.Calls.{last_below}
use Rattle.sheet.specs.Survey.{no_chain, as_chain, found_from, nothing_found, lots_survey, free_of, found, survey_of}
use Rattle.sheet.specs.Sharing.{Counted}
use Rattle.sheetmodel.proofs.ForSheet.{units_of, sound_lots, find_above}

-- ---- what is found

-- with so many records used, and nothing else changed
abbrev with_used : Found → ℕ → Found
with_used f n = record { used = n; before = f.before; at = f.at; chain = f.chain }

module _ (first : ℕ) (w : List ℕ) (hi n : ℕ) where
  -- past the number that is sought nothing more is found
  passed : (f : Found) (ls : List Lot) (above at : ℕ) → n ≤ above → Lots first w hi above ls at → found_from n f ls ≡ with_used f (f.used + records_of ls)
  passed f [] above at l h = ap (with_used f) (sym (add-zero f.used))
  passed f (m ∷ ls) above at l h =
      let u = units_of m.inspections in
      let r : n < m.number = omega (arith, h.0.rises) in
      let sum : f.used + (1 + units (counts (classes m.inspections))) + records_of ls ≡ f.used + (1 + length m.inspections + records_of ls) = omega arith in
      rw (le-ltb m.number n (omega arith), ne_eqb n m.number (λ e. omega arith))
      (passed (with_used f (f.used + (1 + units (counts (classes m.inspections))))) ls m.number _ (omega arith) h.2 ∙ ap (with_used f) sum)

  -- f, with the lot that is on the sheet
  abbrev with_lot : Found → Option Lot → ℕ → ℕ → Found
  with_lot f none before used = record { used = used; before = before; at = f.at; chain = f.chain }
  with_lot f (some l) before used = record { used = used; before = before; at = l.at; chain = as_chain l.inspections }

  same_lot : (f g : Found) (o : Option Lot) (before x y : ℕ) → x ≡ y → f.at ≡ g.at → f.chain ≡ g.chain → with_lot f o before x ≡ with_lot g o before y
  same_lot f g none before x y e a c = cc
  same_lot f g (some l) before x y e a c = ap (λ (u : ℕ). record { used = u; before = before; at = l.at; chain = as_chain l.inspections }) e

  found_is : (f : Found) (ls : List Lot) (above at : ℕ) → Lots first w hi above ls at
      → found_from n f ls ≡ with_lot f (find n ls) (last_below n f.before ls) (f.used + records_of ls)
  found_is f [] above at h = ap (with_used f) (sym (add-zero f.used))
  found_is f (m ∷ ls) above at h =
      go (dec_lt m.number n) (dec_lt n m.number)
      (found_is (record { used = f.used + (1 + units (counts (classes m.inspections))); before = m.at; at = f.at; chain = f.chain }) ls m.number _ h.2)
    where
      sum : f.used + (1 + units (counts (classes m.inspections))) + records_of ls ≡ f.used + (1 + length m.inspections + records_of ls)
      sum = omega (arith, units_of m.inspections)

      go : Dec (m.number < n) → Dec (n < m.number)
          → found_from n (record { used = f.used + (1 + units (counts (classes m.inspections))); before = m.at; at = f.at; chain = f.chain }) ls
          ≡ with_lot (record { used = f.used + (1 + units (counts (classes m.inspections))); before = m.at; at = f.at; chain = f.chain }) (find n ls) (last_below n m.at ls) (f.used + (1 + units (counts (classes m.inspections))) + records_of ls)
          → found_from n f (m ∷ ls) ≡ with_lot f (find n (m ∷ ls)) (last_below n f.before (m ∷ ls)) (f.used + (1 + length m.inspections + records_of ls))
      go (yes l) d later =
          rw (lt-ltb m.number n l, ne_eqb n m.number (λ e. omega arith))
          (later ∙ same_lot (record { used = f.used + (1 + units (counts (classes m.inspections))); before = m.at; at = f.at; chain = f.chain }) f (find n ls) (last_below n m.at ls) _ _ sum refl refl)
      go (no l) (yes k) later =
          rw (le-ltb m.number n (omega arith), ne_eqb n m.number (λ e. omega arith), find_above first w hi n m.number _ ls (omega arith) h.2)
          (passed (with_used f (f.used + (1 + units (counts (classes m.inspections))))) ls m.number _ (omega arith) h.2 ∙ ap (with_used f) sum)
      go (no l) (no k) later =
          rw (le-ltb m.number n (omega arith), eq-eqb n m.number (omega arith))
          (passed (record { used = f.used + (1 + units (counts (classes m.inspections))); before = f.before; at = m.at; chain = as_chain m.inspections }) ls m.number _ (omega arith) h.2
          ∙ ap (λ (u : ℕ). record { used = u; before = f.before; at = m.at; chain = as_chain m.inspections }) sum)

-- ---- the whole survey

-- by the lots and the free records
abbrev pub by_walks : ℕ → List ℕ → std.Option Found → std.Option ℕ → std.Option Found
by_walks first w None c = None
by_walks first w (Some f) None = None
by_walks first w (Some f) (Some k) = cond (eqb (first + (f.used + k)) (word w next_unused)) (Some f) None

module _ (first : ℕ) (w : List ℕ) (n : ℕ) where
  abbrev p : List Stage
  p = stages (plan_words w)

  -- the lot is the one that `find` gives
  same_found : (ls : List Lot) → Lots first w (word w next_unused) 0 ls (word w first_lot)
      → found_from n nothing_found ls ≡ found n (find n ls) (last_below n 0 ls) (records_of ls)
  same_found ls h = found_is first w (word w next_unused) n nothing_found ls 0 (word w first_lot) h ∙ go (find n ls)
    where
      go : (o : Option Lot) → with_lot first w (word w next_unused) n nothing_found o (last_below n 0 ls) (0 + records_of ls) ≡ found n o (last_below n 0 ls) (records_of ls)
      go none = ap (λ (u : ℕ). record { used = u; before = last_below n 0 ls; at = 0; chain = no_chain }) (omega arith)
      go (some l) = ap (λ (u : ℕ). record { used = u; before = last_below n 0 ls; at = l.at; chain = as_chain l.inspections }) (omega arith)

  -- what was found stands if the records are counted
  found_one : (ls : List Lot) (js : List ℕ) (o : Option Lot) (x : Bool) → find n ls ≡ o → eqb (first + (records_of ls + length js)) (word w next_unused) ≡ x
      → survey_of n (guard x (λ ok. some (record { lots = ls; free = js }))) ≡ by_walks first w (Some (found n o (last_below n 0 ls) (records_of ls))) (Some (length js))
  found_one ls js none true f e = rw (f, e)
  found_one ls js none false f e = rw e
  found_one ls js (some l) true f e = rw (f, e)
  found_one ls js (some l) false f e = rw e

  last_test : (ls : List Lot) (js : List ℕ) → Lots first w (word w next_unused) 0 ls (word w first_lot)
      → survey_of n (guard (contents_ok first w (record { lots = ls; free = js })) (λ ok. some (record { lots = ls; free = js })))
      ≡ by_walks first w (cond (all_undecided_before p ls) (Some (found_from n nothing_found ls)) None) (Some (length js))
  last_test ls js h = go (all_undecided_before p ls) (eqb (first + (records_of ls + length js)) (word w next_unused)) refl
    where
      go : (b x : Bool) → eqb (first + (records_of ls + length js)) (word w next_unused) ≡ x
          → survey_of n (guard (x && b) (λ ok. some (record { lots = ls; free = js }))) ≡ by_walks first w (cond b (Some (found_from n nothing_found ls)) None) (Some (length js))
      go false x e = rw (and-false x)
      go true x e = rw (and-true x, same_found ls h) (found_one ls js (find n ls) x refl e)

  pub by_header : header_ok first w ≡ true
      → survey_of n (read_from first w) ≡ by_walks first w (lots_survey p n nothing_found (read_lots first w (records w) 0 (word w first_lot))) (free_of (read_free first w (depth w) (word w first_free)))
  unfolding read_from
  by_header e = rw e (go (read_lots first w (records w) 0 (word w first_lot)) refl (read_free first w (depth w) (word w first_free)))
    where
      go : (L : Option (List Lot)) → read_lots first w (records w) 0 (word w first_lot) ≡ L → (F : Option (List ℕ))
          → survey_of n (then L (λ ls. then F (λ js. guard (contents_ok first w (record { lots = ls; free = js })) (λ ok. some (record { lots = ls; free = js })))))
          ≡ by_walks first w (lots_survey p n nothing_found L) (free_of F)
      go none f F = refl
      go (some ls) f none = cut (all_undecided_before p ls)
        where
          cut : (b : Bool) → None ≡ by_walks first w (cond b (Some (found_from n nothing_found ls)) None) None
          cut true = refl
          cut false = refl
      go (some ls) f (some js) = last_test ls js (sound_lots first w (records w) 0 (word w first_lot) ls f)

  pub no_header : header_ok first w ≡ false → survey_of n (read_from first w) ≡ None
  unfolding read_from
  no_header e = rw e

  -- with what the walks of the code gave
  pub by_code : header_ok first w ≡ true → (v : std.Option Found) → v ≡ lots_survey p n nothing_found (read_lots first w (records w) 0 (word w first_lot))
      → (k : std.Option ℕ) → k ≡ free_of (read_free first w (depth w) (word w first_free)) → by_walks first w v k ≡ survey_of n (read_from first w)
  by_code e v f k g = ap₂ (by_walks first w) f g ∙ sym (by_header e)

  -- ---- what the offices hold

  lots_of : (s : Contents) → read_from first w ≡ some s → read_lots first w (records w) 0 (word w first_lot) ≡ some s.lots
  unfolding read_from
  lots_of s = go (header_ok first w) (read_lots first w (records w) 0 (word w first_lot)) (read_free first w (depth w) (word w first_free)) (contents_ok first w)
    where
      go : (b : Bool) (L : Option (List Lot)) (F : Option (List ℕ)) (test : Contents → Bool)
          → guard b (λ ok. then L (λ ls. then F (λ js. guard (test (record { lots = ls; free = js })) (λ ok. some (record { lots = ls; free = js }))))) ≡ some s → L ≡ some s.lots
      go false L F test e = let z : ◌≡◌ {A = ℕ} 0 1 = cc in absurd (omega arith)
      go true none F test e = let z : ◌≡◌ {A = ℕ} 0 1 = cc in absurd (omega arith)
      go true (some ls) none test e = let z : ◌≡◌ {A = ℕ} 0 1 = cc in absurd (omega arith)
      go true (some ls) (some js) test e = tested (test (record { lots = ls; free = js })) e
        where
          tested : (b : Bool) → guard b (λ ok. some (record { lots = ls; free = js })) ≡ some s → some ls ≡ some s.lots
          tested false e = let z : ◌≡◌ {A = ℕ} 0 1 = cc in absurd (omega arith)
          tested true e = let same : record { lots = ls; free = js } ≡ s = cc in ap (λ (t : Contents). some t.lots) same

  -- what was counted of the lots is what the offices hold of a sheet that is read
  pub counted_whole : (f : Found) (h : List ℕ) → survey_of n (read_from first w) ≡ Some f → Counted (Some f) (read_lots first w (records w) 0 (word w first_lot)) h
      → Counted (Some f) (then (read_from first w) (λ s. some s.lots)) h
  counted_whole f h e c = go (read_from first w) refl e
    where
      go : (o : Option Contents) → read_from first w ≡ o → survey_of n o ≡ Some f → Counted (Some f) (then o (λ s. some s.lots)) h
      go none r e = let z : ◌≡◌ {A = ℕ} 0 1 = cc in absurd (omega arith)
      go (some s) r e = (c.0, sym (lots_of s r) ∙ c.1, c.2)
