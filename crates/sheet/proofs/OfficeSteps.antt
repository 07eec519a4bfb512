-- The offices' records counted lot by lot, sums over offices, and the rule by what was counted. Assumes nothing.
use Prim.Native.Nat.{ℕ, ◌+◌, ◌-◌, ◌≤◌, ◌<◌}
use mathlib.Core.Path.{◌≡◌, refl, sym, ap, ◌∙◌}
use mathlib.Core.Logic.{◌≢◌}
use mathlib.Core.Bool.{Bool, true, false, cond}
use mathlib.Core.Option.{Option, some}
use mathlib.Core.List.{List, [], ◌∷◌}
use native.Mathlib.Omega.{arith}
use lib.ListN.{length, set, replicate, length-set, get_or-replicate}
use lib.Dec.{ltb, eqb}
use borrow.Author.Tests.{lt-ltb, le-ltb, eqb-true, eqb-false}
use Rattle.sheetmodel.specs.Layout.{word, next_unused, first_record, offices, share}
use Rattle.sheetmodel.specs.Contents.{Lot, Contents}
use Rattle.sheetmodel.specs.Holds.{Holds}
use Rattle.sheetmodel.specs.Offices.{office, added_up, held, lacking, all_lacking, others_lacking, spare, may_take}
use Rattle.sheetmodel.specs.Read.{read, depth}
use Rattle.sheetmodel.specs.Calls.{contents}
use Rattle.sheet.specs.Survey.{Sized}
use Rattle.sheet.specs.Writes.{Freeing}
use Rattle.sheet.specs.Sharing.{WholeSheet, HeldBy, with_lot_held}
use Rattle.sheetmodel.proofs.ForSheet.{some_value, depths, an_office, others_and_own, sum_same, word_set, word_set_here}
use Rattle.sheet.proofs.Requires.{holds, sized, freeing}

-- ---- a whole sheet

module _ (w : List ℕ) (k : WholeSheet w) where
  its_contents : (s : Contents) × (read w ≡ some s)
  its_contents = some_value (read w) (rw k.intact refl)

  pub reads_its : read w ≡ some (contents w)
  reads_its = rw its_contents.1

  pub holds_its : Holds first_record w (contents w)
  holds_its = holds w (contents w) k.size reads_its

  pub sized_its : Sized w
  sized_its = sized w (contents w) k.size reads_its

  pub can_free : Freeing w 1
  can_free = freeing w (contents w) k.size reads_its 1 (omega (arith, sized_its.long))

  pub depth_is : depth w ≡ length (contents w).free
  depth_is = depths first_record (omega arith) w (word w next_unused) (contents w).free holds_its.free

-- ---- the lots, one after the other

-- h has what each office holds of the lots read before those left, and no more than all records used by them
pub record Counting (all left : Option (List Lot)) (h : List ℕ) (used : ℕ) : Type 0 where
  pub sixteen : length h ≡ offices
  pub few : (o : ℕ) → o < offices → word h o ≤ used
  pub so_far : (rest : List Lot) → left ≡ some rest → (ls : List Lot) × (all ≡ some ls) × ((o : ℕ) → o < offices → word h o + held rest o ≡ held ls o)

pub count_start : (all : Option (List Lot)) → Counting all all (replicate offices 0) 0
count_start all = record {
  sixteen = refl;
  few = λ o b. omega (arith, get_or-replicate {A = ℕ} offices o 0 0 b);
  so_far = λ rest e. (rest, e, λ o b. omega (arith, get_or-replicate {A = ℕ} offices o 0 0 b));
}

-- an office's records with one lot more: those of the lot's office rise, and no others
with_lot_word : (h : List ℕ) (number n a : ℕ) → length h ≡ offices → word (with_lot_held h number n) a ≡ word h a + cond (eqb (office number) a) (1 + n) 0
with_lot_word h number n a sixteen = go (eqb o a) refl
  where
    o : ℕ
    o = office number

    v : ℕ
    v = word h o + (1 + n)

    go : (t : Bool) → eqb o a ≡ t → word (set h o v) a ≡ word h a + cond t (1 + n) 0
    go true e =
        let z = eqb-true o a e in
        let b : o < length h = omega (arith, an_office number) in
        rw (← z) (word_set_here h o v b)
    go false e = let d : a ≢ o = λ z. eqb-false o a e (sym z) in omega (arith, word_set h o a v d)

pub count_one : (all left later : Option (List Lot)) (h : List ℕ) (used number n : ℕ) → Counting all left h used
    → ((ls : List Lot) → later ≡ some ls → (l : Lot) × (left ≡ some (l ∷ ls)) × (l.number ≡ number) × (length l.inspections ≡ n))
    → Counting all later (with_lot_held h number n) (used + (1 + n))
count_one all left later h used number n c reads = record {
  sixteen = length-set h (office number) _ ∙ c.sixteen;
  few = λ o b. at_most o b (eqb (office number) o) (with_lot_word h number n o c.sixteen);
  so_far = λ ls e.
      let x = reads ls e in
      let y = c.so_far (x.0 ∷ ls) x.1 in
      (y.0, y.1, λ o b. with_own o ls x.0 x.2 x.3 ∙ y.2 o b);
}
  where
    at_most : (o : ℕ) → o < offices → (t : Bool) → word (with_lot_held h number n) o ≡ word h o + cond t (1 + n) 0 → word (with_lot_held h number n) o ≤ used + (1 + n)
    at_most o b true e = omega (arith, c.few o b)
    at_most o b false e = omega (arith, c.few o b)

    with_own : (o : ℕ) (ls : List Lot) (l : Lot) → l.number ≡ number → length l.inspections ≡ n → word (with_lot_held h number n) o + held ls o ≡ word h o + held (l ∷ ls) o
    with_own o ls l e f = rw (e, f) (omega (arith, with_lot_word h number n o c.sixteen))

pub count_done : (all left : Option (List Lot)) (h : List ℕ) (used : ℕ) → Counting all left h used → left ≡ some [] → (ls : List Lot) × (all ≡ some ls) × HeldBy ls h
count_done all left h used c e =
    let y = c.so_far [] e in
    (y.0, y.1, record { sixteen = c.sixteen; each = λ o b. omega (arith, y.2 o b) })

-- ---- the rule

module _ (w : List ℕ) (n left : ℕ) (left_is : left ≡ spare w (contents w)) where
  abbrev own : ℕ
  own = office n

  abbrev lots : List Lot
  lots = (contents w).lots

  module _ (h : List ℕ) (counted : HeldBy lots h) where
    held_is : word h own ≡ held lots own
    held_is = counted.each own (an_office n)

    pub below_share : word h own < share w own → may_take w (contents w) own ≡ true
    unfolding may_take
    below_share b = rw (lt-ltb (held lots own) (share w own) (omega (arith, held_is)))

    pub by_spare : share w own ≤ word h own → (lack : ℕ) → lack ≡ added_up offices (λ o. share w o - word h o) → ltb lack left ≡ may_take w (contents w) own
    unfolding may_take
    by_spare b lack e =
        let all : lack ≡ all_lacking w lots = e ∙ sum_same offices (λ o. share w o - word h o) (lacking w lots) (λ o c. ap (λ (x : ℕ). share w o - x) (counted.each o c)) in
        let others : lack ≡ others_lacking w lots own = omega (arith, others_and_own w lots own (an_office n), held_is) in
        rw (le-ltb (held lots own) (share w own) (omega (arith, held_is)), others, left_is)
