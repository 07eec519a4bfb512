-- Every record in use is on a chain: the chains have as many records as are in use, and none twice. So words 1 and 2 of a record in
-- use, whatever it is, are below the next record never used. Assumes nothing.
use Prim.Native.Nat.{ℕ, zero, suc, ◌+◌, ◌-◌, ◌≤◌, ◌<◌}
use mathlib.Core.Path.{◌≡◌, refl, sym, subst}
use mathlib.Core.Bool.{Bool, true, false, cond}
use mathlib.Core.List.{List, [], ◌∷◌, ◌++◌, map}
use native.Mathlib.Omega.{arith}
use lib.ListN.{length, length-append, length-map}
use lib.Dec.{eqb}
use borrow.Author.Tests.{eqb-true, eq-eqb, ne_eqb}
use Rattle.sheetmodel.specs.Layout.{word, field, next_unused, free_tag}
use Rattle.sheetmodel.specs.Contents.{Inspection, Lot, records_of}
use Rattle.sheetmodel.specs.Offices.{added_up}
use Rattle.sheetmodel.specs.Holds.{Inspections, Lots, Free, LinksLaw}
use Rattle.sheetmodel.proofs.Shares.{sum_but, sum_part}

-- ---- lists in which no number is twice

-- how often q is in a list
abbrev count : ℕ → List ℕ → ℕ
count q [] = 0
count q (x ∷ xs) = cond (eqb q x) 1 0 + count q xs

count_here : (q x : ℕ) (xs : List ℕ) → q ≡ x → count q (x ∷ xs) ≡ 1 + count q xs
count_here q x xs e = rw (eq-eqb q x e)

count_append : (q : ℕ) (xs ys : List ℕ) → count q (xs ++ ys) ≡ count q xs + count q ys
count_append q [] ys = omega arith
count_append q (x ∷ xs) ys = omega (arith, count_append q xs ys)

-- no number is twice in xs, and each has P
record Once (P : ℕ → Type 0) (xs : List ℕ) : Type 0 where
  pub each : (q : ℕ) → (count q xs ≤ 1) × (1 ≤ count q xs → P q)

none : {P : ℕ → Type 0} → Once P []
none = record { each = λ q. (omega arith, λ h. absurd (omega arith)) }

alone : (x : ℕ) → Once (λ q. q ≡ x) (x ∷ [])
alone x = record { each = λ q. go q (eqb q x) refl }
  where
    go : (q : ℕ) (b : Bool) → eqb q x ≡ b → (cond b 1 0 + 0 ≤ 1) × (1 ≤ cond b 1 0 + 0 → q ≡ x)
    go q true e = (omega arith, λ h. eqb-true q x e)
    go q false e = (omega arith, λ h. absurd (omega arith))

-- P and Q hold of no number both, so the lists share none
join : {P Q R : ℕ → Type 0} {xs ys : List ℕ} → ((q : ℕ) → P q → R q) → ((q : ℕ) → Q q → R q) → ((q : ℕ) → P q → Q q → ⊥) → Once P xs → Once Q ys → Once R (xs ++ ys)
join {P} {Q} {R} {xs} {ys} f g apart a b = record { each = λ q. rw count_append (go q (count q xs) (count q ys) (a.each q) (b.each q)) }
  where
    go : (q m n : ℕ) → (m ≤ 1) × (1 ≤ m → P q) → (n ≤ 1) × (1 ≤ n → Q q) → (m + n ≤ 1) × (1 ≤ m + n → R q)
    go q zero n c d = (omega arith, λ h. g q (d.1 (omega arith)))
    go q (suc m) zero c d = (omega arith, λ h. f q (c.1 (omega arith)))
    go q (suc m) (suc n) c d = absurd (apart q (c.1 (omega arith)) (d.1 (omega arith)))

add : {P R : ℕ → Type 0} {x : ℕ} {xs : List ℕ} → R x → ((q : ℕ) → P q → R q) → (P x → ⊥) → Once P xs → Once R (x ∷ xs)
add {P} {R} {x} here wider new o = join (λ q e. subst R (sym e) here) wider (λ q e p. new (subst P e p)) (alone x) o

-- f and what it lacks of 1
lack : (n : ℕ) (f : ℕ → ℕ) → ((k : ℕ) → f k ≤ 1) → added_up n f + added_up n (λ k. 1 - f k) ≡ n
unfolding added_up
lack zero f h = refl
lack (suc n) f h = omega (arith, lack n f h, h n)

module _ (low n : ℕ) where
  -- number by number
  counted : (xs : List ℕ) → ((q : ℕ) → 1 ≤ count q xs → (low ≤ q) × (q < low + n)) → length xs ≤ added_up n (λ k. count (low + k) xs)
  counted [] h = omega arith
  counted (x ∷ xs) h =
      let k = x - low in
      let b = h x (omega (arith, count_here x x xs refl)) in
      let but = sum_but n k (λ i. count (low + i) (x ∷ xs)) (λ i. count (low + i) xs) (omega arith) (λ i l d. rw (ne_eqb (low + i) x (omega arith)) (omega arith)) in
      omega (arith, count_here (low + k) x xs (omega arith), counted xs (λ q m. h q (omega arith)))

  -- n numbers from low to low + n - 1, none twice, are all of these
  pigeonhole : {P : ℕ → Type 0} {xs : List ℕ} → Once P xs → ((q : ℕ) → P q → (low ≤ q) × (q < low + n)) → length xs ≡ n → (q : ℕ) → low ≤ q → q < low + n → P q
  pigeonhole {P} {xs} o bounds len q l b =
      let k = q - low in
      let f : ℕ → ℕ = λ i. count (low + i) xs in
      let there : 1 ≤ f k = omega (arith, counted xs (λ i m. bounds i ((o.each i).1 m)), lack n f (λ i. (o.each (low + i)).0), sum_part n k (λ i. 1 - f i) (omega arith)) in
      subst P (omega arith) ((o.each (low + k)).1 there)

-- ---- the records on the chains

abbrev inspection_records : List Lot → List ℕ
inspection_records [] = []
inspection_records (l ∷ ls) = map (λ i. i.at) l.inspections ++ inspection_records ls

lots_and_inspections : (ls : List Lot) → length ls + length (inspection_records ls) ≡ records_of ls
lots_and_inspections [] = refl
lots_and_inspections (l ∷ ls) = simp (length-append, length-map) (omega (arith, lots_and_inspections ls))

module _ (start : ℕ) (w : List ℕ) (hi : ℕ) where
  -- the record q is in use, and its words 1 and 2 are below the next never used
  record InUse (q : ℕ) : Type 0 where
    pub low : start ≤ q
    pub high : q < hi
    pub f1 : field w q 1 < hi
    pub f2 : field w q 2 < hi

  -- Word 3 tells lots, inspections and free records apart. Lots differ in their numbers, inspections in their lots' numbers or their
  -- serials, and free records in their depths. A chain's first index is the link of what leads to it.
  module _ (some : 0 < hi) where
    inspections : (lot : ℕ) → lot < hi → (is : List Inspection) (at : ℕ) → Inspections start w hi lot is at →
        (at < hi) × Once (λ q. InUse q × (field w (field w q 2) 0 ≡ field w lot 0) × (1 ≤ field w q 3) × (field w q 3 ≤ length is)) (map (λ i. i.at) is)
    inspections lot b [] at h = (omega arith, none)
    inspections lot b (i ∷ is) at h =
        let x = h.0 in
        let r = inspections lot b is (field w i.at 1) h.1 in
        (omega arith, add (rw x.owner (omega arith)) (λ q p. omega arith) (λ p. omega arith) r.1)

    lots : (above : ℕ) (ls : List Lot) (at : ℕ) → Lots start w hi above ls at →
        (at < hi) × Once (λ q. InUse q × (above < field w q 0) × (field w q 3 ≡ 0)) (map (λ l. l.at) ls)
        × Once (λ q. InUse q × (above < field w (field w q 2) 0) × (1 ≤ field w q 3) × (field w q 3 ≤ records_of ls)) (inspection_records ls)
    lots above [] at h = (omega arith, none, none)
    lots above (l ∷ ls) at h =
        let x = h.0 in
        let i = inspections l.at x.high l.inspections (field w l.at 2) h.1 in
        let r = lots l.number ls (field w l.at 1) h.2 in
        (omega arith, add (omega arith) (λ q p. omega arith) (λ p. omega arith) r.1, join (λ q p. omega arith) (λ q p. omega arith) (λ q p o. omega arith) i.1 r.2)

    free : (js : List ℕ) (at : ℕ) → Free start w hi js at → (at < hi) × Once (λ q. InUse q × (field w q 3 ≡ free_tag) × (field w q 0 ≤ length js)) js
    free [] at h = (omega arith, none)
    free (j ∷ js) at h =
        let x = h.0 in
        let r = free js (field w j 1) h.1 in
        (omega arith, add (omega arith) (λ q p. omega arith) (λ p. omega arith) r.1)

pub links_below : LinksLaw
links_below start w s one long h =
    let hi = word w next_unused in
    let l = lots start w hi (omega arith) 0 s.lots (field w 0 1) h.lots in
    let f = free start w hi (omega arith) s.free (field w 0 2) h.free in
    let filled = join {R = λ q. InUse start w hi q × (field w q 3 < free_tag)} (λ q p. omega arith) (λ q p. omega arith) (λ q p o. omega arith) l.1 l.2 in
    let all = join {R = InUse start w hi} (λ q p. p.0) (λ q p. p.0) (λ q p o. omega arith) filled f.1 in
    let u : (q : ℕ) → start ≤ q → q < hi → InUse start w hi q =
    λ q low high. pigeonhole start (hi - start) all (λ q p. omega arith) (simp (length-append, length-map) (omega (arith, lots_and_inspections s.lots))) q low (omega arith) in
    record { lot = l.0; free = f.0; each = λ q low high. ((u q low high).f1, (u q low high).f2) }
