-- The chain of lots, parted at a number n: the lots below it and the lots from it on. Assumes nothing.
use Prim.Native.Nat.{ℕ, ◌+◌, ◌≤◌, ◌<◌}
use mathlib.Core.Path.{◌≡◌, refl, sym, ap, ◌∙◌}
use mathlib.Core.Logic.{◌≢◌}
use mathlib.Core.Bool.{Bool, true, false, cond}
use mathlib.Core.Option.{none, some}
use mathlib.Core.List.{List, [], ◌∷◌, ◌++◌}
use native.Mathlib.Omega.{arith}
use lib.ListN.{length}
use lib.Dec.{ltb, eqb}
use borrow.Author.Tests.{ltb-true, ltb-false, eqb-true, eqb-false, ne_eqb}
use Rattle.sheetmodel.specs.Layout.{field, first_record}
use Rattle.sheetmodel.specs.Contents.{Lot, find, records_of}
use Rattle.sheetmodel.specs.Holds.{Lots}
use Rattle.sheetmodel.specs.Calls.{last_below}
use Rattle.sheetmodel.proofs.Words.{Same}
use Rattle.sheetmodel.proofs.Chains.{IsLot, IsInspection, keep_inspections}

abbrev pub below : ℕ → List Lot → List Lot
below n [] = []
below n (l ∷ ls) = cond (ltb l.number n) (l ∷ below n ls) []

abbrev pub from : ℕ → List Lot → List Lot
from n [] = []
from n (l ∷ ls) = cond (ltb l.number n) (from n ls) (l ∷ ls)

pub below_from : (n : ℕ) (ls : List Lot) → below n ls ++ from n ls ≡ ls
below_from n [] = refl
below_from n (l ∷ ls) = go (below_from n ls) (ltb l.number n)
  where
    go : below n ls ++ from n ls ≡ ls → (b : Bool) → cond b (l ∷ below n ls) [] ++ cond b (from n ls) (l ∷ ls) ≡ l ∷ ls
    go ih true = ap (λ (r : List Lot). l ∷ r) ih
    go ih false = refl

pub records_of_append : (xs ys : List Lot) → records_of (xs ++ ys) ≡ records_of xs + records_of ys
records_of_append [] ys = omega arith
records_of_append (l ∷ xs) ys = omega (arith, records_of_append xs ys)

pub records_of_parts : (n : ℕ) (ls : List Lot) → records_of ls ≡ records_of (below n ls) + records_of (from n ls)
records_of_parts n ls = ap records_of (sym (below_from n ls)) ∙ records_of_append (below n ls) (from n ls)

-- what a number finds
pub find_same : (m : ℕ) (xs ys zs : List Lot) → find m ys ≡ find m zs → find m (xs ++ ys) ≡ find m (xs ++ zs)
find_same m [] ys zs e = e
find_same m (x ∷ xs) ys zs e = rw (find_same m xs ys zs e)

pub find_skip : (n : ℕ) (ls ys : List Lot) → find n (below n ls ++ ys) ≡ find n ys
find_skip n [] ys = refl
find_skip n (l ∷ ls) ys = go (find_skip n ls ys) (ltb l.number n) refl
  where
    go : find n (below n ls ++ ys) ≡ find n ys → (b : Bool) → ltb l.number n ≡ b → find n (cond b (l ∷ below n ls) [] ++ ys) ≡ find n ys
    go ih true e = rw (ne_eqb n l.number (λ q. omega (arith, ltb-true l.number n e))) ih
    go ih false e = refl

-- the chain from n on hangs at the link of the last lot below n
abbrev pub Rest : ℕ → List ℕ → ℕ → ℕ → ℕ → List Lot → Type 0
Rest start w hi n p ls = (above : ℕ) × (above < n) × Lots start w hi above ls (field w p 1)

-- that lot
pub record Prior (start : ℕ) (w : List ℕ) (hi above n p : ℕ) : Type 0 where
  pub low : start ≤ p
  pub high : p < hi
  pub tag : field w p 3 ≡ 0
  pub least : above ≤ field w p 0
  pub less : field w p 0 < n

module _ (start : ℕ) (w : List ℕ) (hi : ℕ) where
  pub find_above : (n above at : ℕ) (ls : List Lot) → n ≤ above → Lots start w hi above ls at → find n ls ≡ none
  find_above n above at [] h c = refl
  find_above n above at (l ∷ ls) h c =
      let r = c.0.rises in
      rw (ne_eqb n l.number (omega arith)) (find_above n l.number (field w l.at 1) ls (omega arith) c.2)

module _ (start : ℕ) (base : first_record ≤ start) (w : List ℕ) (hi : ℕ) where
  pub rest : (n : ℕ) (ls : List Lot) (above before : ℕ) → above < n → Lots start w hi above ls (field w before 1) → Rest start w hi n (last_below n before ls) (from n ls)
  rest n [] above before h c = (above, h, c)
  rest n (l ∷ ls) above before h c = go (λ d. rest n ls l.number l.at d c.2) (ltb l.number n) refl
    where
      go : (l.number < n → Rest start w hi n (last_below n l.at ls) (from n ls)) → (b : Bool) → ltb l.number n ≡ b →
          Rest start w hi n (cond b (last_below n l.at ls) before) (cond b (from n ls) (l ∷ ls))
      go ih true e = ih (ltb-true l.number n e)
      go ih false e = (above, h, c)

  pub prior : (n : ℕ) (ls : List Lot) (above at q : ℕ) → Lots start w hi above ls at → Prior start w hi above n q → field w q 0 ≡ above → Prior start w hi above n (last_below n q ls)
  prior n [] above at q c h e = h
  prior n (l ∷ ls) above at q c h e = go (prior n ls l.number (field w l.at 1) l.at c.2) (ltb l.number n) refl
    where
      go : (Prior start w hi l.number n l.at → field w l.at 0 ≡ l.number → Prior start w hi l.number n (last_below n l.at ls)) → (b : Bool) → ltb l.number n ≡ b →
          Prior start w hi above n (cond b (last_below n l.at ls) q)
      go ih true d =
          let x = c.0 in
          let t : l.number < n = ltb-true l.number n d in
          let y = ih (record { low = x.low; high = x.high; tag = x.tag; least = omega arith; less = omega arith }) x.numbered in
          record { low = y.low; high = y.high; tag = y.tag; least = omega arith; less = y.less }
      go ih false d = h

  pub prior_header : (n : ℕ) (ls : List Lot) (above at : ℕ) → Lots start w hi above ls at → 1 ≤ last_below n 0 ls → Prior start w hi above n (last_below n 0 ls)
  prior_header n [] above at c h = absurd (omega arith)
  prior_header n (l ∷ ls) above at c h = go (ltb l.number n) refl h
    where
      go : (b : Bool) → ltb l.number n ≡ b → 1 ≤ cond b (last_below n l.at ls) 0 → Prior start w hi above n (cond b (last_below n l.at ls) 0)
      go true d k =
          let x = c.0 in
          let t : l.number < n = ltb-true l.number n d in
          let y = prior n ls l.number (field w l.at 1) l.at c.2 (record { low = x.low; high = x.high; tag = x.tag; least = omega arith; less = omega arith }) x.numbered in
          record { low = y.low; high = y.high; tag = y.tag; least = omega arith; less = y.less }
      go false d k = absurd (omega arith)

  -- the lot that n finds is the first from n on
  pub found : (n : ℕ) (ls : List Lot) (above at : ℕ) (l : Lot) → Lots start w hi above ls at → find n ls ≡ some l → (post : List Lot) × (from n ls ≡ l ∷ post) × (l.number ≡ n)
  found n [] above at l c e = let z : ◌≡◌ {A = ℕ} 0 1 = cc in absurd (omega arith)
  found n (k ∷ ls) above at l c e = go (found n ls k.number (field w k.at 1) l c.2) (ltb k.number n) refl (eqb n k.number) refl e
    where
      go : (find n ls ≡ some l → (post : List Lot) × (from n ls ≡ l ∷ post) × (l.number ≡ n)) → (b : Bool) → ltb k.number n ≡ b → (t : Bool) → eqb n k.number ≡ t →
          cond t (some k) (find n ls) ≡ some l → (post : List Lot) × (cond b (from n ls) (k ∷ ls) ≡ l ∷ post) × (l.number ≡ n)
      go ih true p true q z = absurd (omega (arith, ltb-true k.number n p, eqb-true n k.number q))
      go ih true p false q z = ih z
      go ih false p true q z = let y : k ≡ l = cc in (ls, ap (λ (m : Lot). m ∷ ls) y, ap (λ (m : Lot). m.number) (sym y) ∙ sym (eqb-true n k.number q))
      go ih false p false q z =
          let y : find n ls ≡ none = find_above start w hi n k.number (field w k.at 1) ls (ltb-false k.number n p) c.2 in
          let x : ◌≡◌ {A = ℕ} 0 1 = cc in absurd (omega arith)

  -- where n finds none, the lots from n on lie above n
  pub not_found : (n : ℕ) (ls : List Lot) (above at : ℕ) → find n ls ≡ none → Lots start w hi above (from n ls) at → Lots start w hi n (from n ls) at
  not_found n [] above at e c = c
  not_found n (l ∷ ls) above at e c = go (not_found n ls above at) (ltb l.number n) refl (eqb n l.number) refl e c
    where
      go : (find n ls ≡ none → Lots start w hi above (from n ls) at → Lots start w hi n (from n ls) at) → (b : Bool) → ltb l.number n ≡ b → (t : Bool) → eqb n l.number ≡ t →
          cond t (some l) (find n ls) ≡ none → Lots start w hi above (cond b (from n ls) (l ∷ ls)) at → Lots start w hi n (cond b (from n ls) (l ∷ ls)) at
      go ih b p true q z d = let x : ◌≡◌ {A = ℕ} 0 1 = cc in absurd (omega arith)
      go ih true p false q z d = ih z d
      go ih false p false q z d =
          let x = d.0 in
          let u : n ≤ l.number = ltb-false l.number n p in
          let y : n ≢ l.number = eqb-false n l.number q in
          (record { here = x.here; low = x.low; high = x.high; numbered = x.numbered; rises = omega arith; tag = x.tag }, d.1, d.2)

-- a lot's record but for its link, which may change at p
pub record SameLot (w v : List ℕ) (p q : ℕ) : Type 0 where
  pub f0 : field v q 0 ≡ field w q 0
  pub f1 : q ≢ p → field v q 1 ≡ field w q 1
  pub f2 : field v q 2 ≡ field w q 2
  pub f3 : field v q 3 ≡ field w q 3

-- v keeps of w each lot but that of n, and its inspections; the link at p may change
pub record Keeps (start : ℕ) (w v : List ℕ) (hi to n p : ℕ) : Type 0 where
  pub up : hi ≤ to
  pub lots : (q : ℕ) → IsLot start w hi n q → SameLot w v p q
  pub inspections : (lot q k : ℕ) → IsLot start w hi n lot → IsInspection start w hi lot k q → Same w v q

module _ (start : ℕ) (base : first_record ≤ start) (w v : List ℕ) (hi to n p : ℕ) (keeps : Keeps start w v hi to n p) where
  -- the chain above n
  pub keep_above : (prior : 1 ≤ p → field w p 0 < n) (ls : List Lot) (above at bt : ℕ) → bt ≡ at → n ≤ above → Lots start w hi above ls at → Lots start v to above ls bt
  keep_above pr [] above at bt e h c = e ∙ c
  keep_above pr (l ∷ ls) above at bt e h c =
      let x = c.0 in
      let up = keeps.up in
      let i : IsLot start w hi n l.at = record { low = x.low; high = x.high; other = omega arith; tag = x.tag } in
      let s = keeps.lots l.at i in
      let d : l.at ≢ p = λ z. omega (arith, pr (omega arith), ap (λ (k : ℕ). field w k 0) z) in (
        record { here = e ∙ x.here; low = x.low; high = omega arith; numbered = s.f0 ∙ x.numbered; rises = x.rises; tag = s.f3 ∙ x.tag },
        keep_inspections start w v hi to up l.at l.inspections (field w l.at 2) (field v l.at 2) s.f2 (λ q m. keeps.inspections l.at q (length l.inspections) i m) c.1,
        keep_above pr ls l.number (field w l.at 1) (field v l.at 1) (s.f1 d) (omega arith) c.2,
      )

  -- the chain below n, up to the link at p, where another rest may hang
  module _ (more : List Lot) (hangs : (a : ℕ) → a < n → Lots start v to a more (field v p 1)) where
    pub keep_below : (ls : List Lot) (above before : ℕ) → above < n → last_below n before ls ≡ p → (1 ≤ before → field w before 0 ≤ above) →
        (before ≢ p → field v before 1 ≡ field w before 1) → Lots start w hi above ls (field w before 1) → Lots start v to above (below n ls ++ more) (field v before 1)
    keep_below [] above before h e b k c = rw e (hangs above h)
    keep_below (l ∷ ls) above before h e b k c = go (λ d z y x. keep_below ls l.number l.at d z y x c.2) (ltb l.number n) refl e
      where
        go : (l.number < n → last_below n l.at ls ≡ p → (1 ≤ l.at → field w l.at 0 ≤ l.number) → (l.at ≢ p → field v l.at 1 ≡ field w l.at 1) →
            Lots start v to l.number (below n ls ++ more) (field v l.at 1)) →
            (t : Bool) → ltb l.number n ≡ t → cond t (last_below n l.at ls) before ≡ p → Lots start v to above (cond t (l ∷ below n ls) [] ++ more) (field v before 1)
        go ih true d z =
            let x = c.0 in
            let up = keeps.up in
            let lt : l.number < n = ltb-true l.number n d in
            let i : IsLot start w hi n l.at = record { low = x.low; high = x.high; other = omega arith; tag = x.tag } in
            let s = keeps.lots l.at i in
            let y = prior start base w hi n ls l.number (field w l.at 1) l.at c.2 (record { low = x.low; high = x.high; tag = x.tag; least = omega arith; less = omega arith }) x.numbered in
            let u : before ≢ p = λ t. omega (arith, y, b (omega (arith, y)), ap (λ (k : ℕ). field w k 0) (t ∙ sym z), t ∙ sym z) in (
              record { here = k u ∙ x.here; low = x.low; high = omega arith; numbered = s.f0 ∙ x.numbered; rises = x.rises; tag = s.f3 ∙ x.tag },
              keep_inspections start w v hi to up l.at l.inspections (field w l.at 2) (field v l.at 2) s.f2 (λ q m. keeps.inspections l.at q (length l.inspections) i m) c.1,
              ih lt z (λ o. omega arith) s.f1,
            )
        go ih false d z = rw z (hangs above h)
