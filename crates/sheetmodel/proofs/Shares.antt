-- Laws of the offices' shares: sums over offices, the records that an office holds, and what one lot's change does to the records
-- that are spare. Assumes nothing.
use Prim.Native.Nat.{ℕ, zero, suc, ◌+◌, ◌-◌, ◌≤◌, ◌<◌}
use mathlib.Core.Path.{◌≡◌, refl, sym, ap, ◌∙◌}
use mathlib.Core.Logic.{◌≢◌, ◌⊎◌, inl, inr}
use mathlib.Core.Bool.{Bool, true, false, cond, ◌||◌}
use mathlib.Core.List.{List, ◌∷◌, ◌++◌, []}
use native.Mathlib.Omega.{arith}
use native.Mathlib.Nat.{mod-lt}
use lib.ListN.{length}
use lib.Dec.{ltb, eqb}
use borrow.Author.Tests.{ltb-true, eq-eqb, ne_eqb, eqb-true, eqb-false}
use Rattle.sheetmodel.specs.Layout.{records, share, offices}
use Rattle.sheetmodel.specs.Contents.{Lot, Contents, records_of}
use Rattle.sheetmodel.specs.Offices.{office, added_up, shares_fit, held_by, held, lacking, all_lacking, others_lacking, spare, may_take}
use Rattle.sheetmodel.specs.Holds.{Holds}
use Rattle.sheetmodel.proofs.Lots.{below, from, below_from, records_of_append, records_of_parts}

-- ---- sums over offices

pub sum_same : (n : ℕ) (f g : ℕ → ℕ) → ((o : ℕ) → o < n → f o ≡ g o) → added_up n f ≡ added_up n g
unfolding added_up
sum_same zero f g h = refl
sum_same (suc n) f g h = omega (arith, sum_same n f g (λ o b. h o (omega arith)), h n (omega arith))

-- .. but at a
pub sum_but : (n a : ℕ) (f g : ℕ → ℕ) → a < n → ((o : ℕ) → o < n → o ≢ a → f o ≡ g o) → added_up n f + g a ≡ added_up n g + f a
unfolding added_up
sum_but zero a f g b h = absurd (omega arith)
sum_but (suc n) a f g b h = go (λ k. sum_but n a f g k (λ o l. h o (omega arith))) (eqb n a) refl
  where
    go : (a < n → added_up n f + g a ≡ added_up n g + f a) → (t : Bool) → eqb n a ≡ t → added_up n f + f n + g a ≡ added_up n g + g n + f a
    go ih true e =
        let z = eqb-true n a e in
        omega (arith, sum_same n f g (λ o k. h o (omega arith) (omega arith)), ap f z, ap g z)
    go ih false e = let d : n ≢ a = eqb-false n a e in omega (arith, ih (omega arith), h n (omega arith) d)

pub sum_part : (n a : ℕ) (f : ℕ → ℕ) → a < n → f a ≤ added_up n f
unfolding added_up
sum_part zero a f b = absurd (omega arith)
sum_part (suc n) a f b = go (sum_part n a f) (eqb n a) refl
  where
    go : (a < n → f a ≤ added_up n f) → (t : Bool) → eqb n a ≡ t → f a ≤ added_up n f + f n
    go ih true e = omega (arith, ap f (eqb-true n a e))
    go ih false e = let d : n ≢ a = eqb-false n a e in omega (arith, ih (omega arith))

pub an_office : (n : ℕ) → office n < offices
an_office n = mod-lt n (omega arith)

pub others_and_own : (w : List ℕ) (ls : List Lot) (o : ℕ) → o < offices → others_lacking w ls o + lacking w ls o ≡ all_lacking w ls
others_and_own w ls o b =
    let but = sum_but offices o (λ a. cond (eqb a o) 0 (lacking w ls a)) (lacking w ls) b (λ a k d. rw (ne_eqb a o d)) in
    omega (arith, ap (λ (t : Bool). cond t 0 (lacking w ls o)) (eq-eqb o o refl))

pub fit_kept : (f g : ℕ → ℕ) (w v : List ℕ) → length v ≡ length w → ((o : ℕ) → o < offices → g o ≡ f o) → shares_fit f w ≡ true → shares_fit g v ≡ true
unfolding shares_fit
fit_kept f g w v len h e = rw (sum_same offices g f h, len) e

-- ---- the records that an office holds

held_at : (xs ys : List Lot) (l : Lot) (o : ℕ) → held (xs ++ (l ∷ ys)) o ≡ held_by l o + held (xs ++ ys) o
held_at [] ys l o = refl
held_at (x ∷ xs) ys l o = omega (arith, held_at xs ys l o)

pub spare_is : {start : ℕ} {w : List ℕ} {s : Contents} → Holds start w s → spare w s + (start + records_of s.lots) ≡ records w
spare_is h = omega (arith, h.count, h.room)

-- a lot of the office o may have `after` records where it had `before`
abbrev pub Allowed : List ℕ → Contents → ℕ → ℕ → ℕ → Type 0
Allowed w s o before after = (after ≤ before) ⊎ ((after ≡ before + 1) × (may_take w s o ≡ true))

-- the lot n changes, and ls are the lots then: the records that it had and has, and the lots beside it
pub record Moved (w : List ℕ) (s : Contents) (n : ℕ) (ls : List Lot) : Type 0 where
  pub before : ℕ
  pub after : ℕ
  pub others : List Lot
  pub held_before : (o : ℕ) → held s.lots o ≡ cond (eqb (office n) o) before 0 + held others o
  pub held_after : (o : ℕ) → held ls o ≡ cond (eqb (office n) o) after 0 + held others o
  pub records_before : records_of s.lots ≡ before + records_of others
  pub records_after : records_of ls ≡ after + records_of others
  pub allowed : Allowed w s (office n) before after

module _ (w : List ℕ) (s : Contents) (n : ℕ) where
  no_records : (b : Bool) → ◌≡◌ {A = ℕ} (cond b 0 0) 0
  no_records true = refl
  no_records false = refl

  pub moved_in : (l : Lot) → l.number ≡ n → l.inspections ≡ [] → may_take w s (office n) ≡ true → Moved w s n (below n s.lots ++ (l ∷ from n s.lots))
  moved_in l num none grant =
      let ls = s.lots in
      record {
        before = 0;
        after = 1;
        others = ls;
        held_before = λ o. omega (arith, no_records (eqb (office n) o));
        held_after = λ o. held_at (below n ls) (from n ls) l o ∙ rw (num, none, below_from n ls);
        records_before = omega arith;
        records_after = omega (arith, records_of_append (below n ls) (l ∷ from n ls), records_of_parts n ls, ap length none);
        allowed = inr (refl, grant);
      }

  module _ (l : Lot) (post : List Lot) (parts : from n s.lots ≡ l ∷ post) (num : l.number ≡ n) where
    split : s.lots ≡ below n s.lots ++ (l ∷ post)
    split = sym (below_from n s.lots) ∙ ap (λ (r : List Lot). below n s.lots ++ r) parts

    held_split : (o : ℕ) → held s.lots o ≡ cond (eqb (office n) o) (1 + length l.inspections) 0 + held (below n s.lots ++ post) o
    held_split o = ap (λ (r : List Lot). held r o) split ∙ held_at (below n s.lots) post l o ∙ rw num

    records_split : records_of s.lots ≡ 1 + length l.inspections + records_of (below n s.lots ++ post)
    records_split = omega (arith, records_of_parts n s.lots, ap records_of parts, records_of_append (below n s.lots) post)

    pub moved_out : Moved w s n (below n s.lots ++ post)
    moved_out = record {
      before = 1 + length l.inspections;
      after = 0;
      others = below n s.lots ++ post;
      held_before = held_split;
      held_after = λ o. omega (arith, no_records (eqb (office n) o));
      records_before = records_split;
      records_after = omega arith;
      allowed = inl (omega arith);
    }

    pub moved_within : (m : Lot) → m.number ≡ n → Allowed w s (office n) (1 + length l.inspections) (1 + length m.inspections) → Moved w s n (below n s.lots ++ (m ∷ post))
    moved_within m is may = record {
      before = 1 + length l.inspections;
      after = 1 + length m.inspections;
      others = below n s.lots ++ post;
      held_before = held_split;
      held_after = λ o. held_at (below n s.lots) post m o ∙ rw is;
      records_before = records_split;
      records_after = omega (arith, records_of_append (below n s.lots) (m ∷ post), records_of_append (below n s.lots) post);
      allowed = may;
    }

-- ---- the spare records stay as many as all offices lack, but for `short`

either : (a b c d : ℕ) → ltb a b || ltb c d ≡ true → (a < b) ⊎ (c < d)
either a b c d e = go (ltb a b) refl e
  where
    go : (t : Bool) → ltb a b ≡ t → t || ltb c d ≡ true → (a < b) ⊎ (c < d)
    go true x z = inl (ltb-true a b x)
    go false x z = inr (ltb-true c d z)

-- what all offices lack is `all` and then `all'`, of which an office that holds `rest` beside the lot lacks its part
still_fair : (all all' others spare spare' share rest before after short : ℕ) → all + (share - (after + rest)) ≡ all' + (share - (before + rest)) → others + (share - (before + rest)) ≡ all →
    spare + before ≡ spare' + after → (after ≤ before) ⊎ ((after ≡ before + 1) × ((before + rest < share) ⊎ (others < spare))) → all ≤ spare + short → all' ≤ spare' + short
still_fair all all' others spare spare' share rest before after short l o b (inl less) fair = omega arith
still_fair all all' others spare spare' share rest before after short l o b (inr more) fair = go more.1
  where
    go : (before + rest < share) ⊎ (others < spare) → all' ≤ spare' + short
    go (inl below) = omega (arith, more.0)
    go (inr exceeds) = omega (arith, more.0)

module _ {start : ℕ} {w v : List ℕ} {s t : Contents} (n : ℕ) (hw : Holds start w s) (hv : Holds start v t) (len : length v ≡ length w)
    (shares : (o : ℕ) → o < offices → share v o ≡ share w o) (m : Moved w s n t.lots) where
  abbrev lacks : ℕ → ℕ
  lacks k = share w (office n) - (k + held m.others (office n))

  here : eqb (office n) (office n) ≡ true
  here = eq-eqb (office n) (office n) refl

  held_was : held s.lots (office n) ≡ m.before + held m.others (office n)
  held_was = rw here at (m.held_before (office n))

  held_is : held t.lots (office n) ≡ m.after + held m.others (office n)
  held_is = rw here at (m.held_after (office n))

  -- only the lot's office lacks more or less
  lacking_but : all_lacking w s.lots + lacks m.after ≡ all_lacking v t.lots + lacks m.before
  lacking_but =
      let but = sum_but offices (office n) (lacking w s.lots) (lacking v t.lots) (an_office n) (λ o b d.
      let apart = ne_eqb (office n) o (λ z. d (sym z)) in
      omega (arith, shares o b, rw apart at (m.held_before o), rw apart at (m.held_after o))) in
      omega (arith, held_was, held_is, shares (office n) (an_office n))

  pub fair_moved : (short : ℕ) → all_lacking w s.lots ≤ spare w s + short → all_lacking v t.lots ≤ spare v t + short
  unfolding may_take
  fair_moved short fair =
      still_fair (all_lacking w s.lots) (all_lacking v t.lots) (others_lacking w s.lots (office n)) (spare w s) (spare v t) (share w (office n)) (held m.others (office n)) m.before m.after short
      lacking_but (omega (arith, others_and_own w s.lots (office n) (an_office n), held_was)) (omega (arith, spare_is hw, spare_is hv, m.records_before, m.records_after)) (go m.allowed) fair
    where
      go : Allowed w s (office n) m.before m.after →
          (m.after ≤ m.before) ⊎ ((m.after ≡ m.before + 1) × ((m.before + held m.others (office n) < share w (office n)) ⊎ (others_lacking w s.lots (office n) < spare w s)))
      go (inl less) = inl less
      go (inr more) = inr (more.0, rw (← held_was) (either (held s.lots (office n)) (share w (office n)) (others_lacking w s.lots (office n)) (spare w s) more.1))
