-- What a call knows of a sheet behind the first rows of the table: the sheet's contents, and the lot of a number. Assumes nothing.
use Prim.Native.Nat.{ℕ}
use mathlib.Core.Path.{◌≡◌, refl, sym, ap, ◌∙◌}
use mathlib.Core.Logic.{◌≢◌, ◌⊎◌, inl, inr}
use mathlib.Core.Bool.{true, false}
use mathlib.Core.Option.{Option, none, some}
use mathlib.Core.List.{List, []}
use native.Mathlib.Omega.{arith}
use borrow.Author.Tests.{not-false}
use Rattle.std.specs.declared.result.Result.{Result}
use Rattle.std.specs.declared.result.Result.TheVariants.{Ok, Err}
use Rattle.plan.specs.declared.refusal.Refusal.{Refusal}
use Rattle.plan.specs.declared.refusal.Refusal.TheVariants as refusal
use Rattle.plan.specs.Refusal.{Row, First, NoneApplies}
use Rattle.plan.proofs.Refusals.{refused_exactly, first_refusals, first_append}
use Rattle.sheet.specs.declared.survey.Found.{Found}
use Rattle.std.specs.Prelude.{Some, None}
use Rattle.std.specs.Prelude as std
use Rattle.std.specs.Option.{ok_or}
use Rattle.sheetmodel.specs.Layout.{size_ok, share, first_record}
use Rattle.sheetmodel.specs.Contents.{Lot, Contents, find, records_of}
use Rattle.sheetmodel.specs.Offices.{shares_fit}
use Rattle.sheetmodel.specs.Read.{then, read, read_from}
use Rattle.sheetmodel.specs.Rows.{is_some, lot_rows}
use Rattle.sheetmodel.specs.Calls.{contents, standing, sheet_rows, last_below}
use Rattle.sheet.specs.Survey.{found, survey_of}
use Rattle.sheet.specs.Locating.{found_on, located}
use Rattle.sheet.specs.Sharing.{WholeSheet, HeldBy, Counted, CountedOn}
use Rattle.sheetmodel.proofs.ForSheet.{some_value, some_lot}
use Rattle.sheet.proofs.Requires.{lot_after_header}

abbrev Located : Type 0
Located = Result Found Refusal

-- what the first rows refuse, and what they let through
module _ (n : ℕ) (w : List ℕ) (others : List Row) where
  pub refused_first : (r : Refusal) → located n w others ≡ Err r → First (sheet_rows w others) r
  refused_first r e = (refused_exactly Located Err (sheet_rows w others) (Ok (found_on n w)) (λ i j d. cc) (λ i d. cc) r).0 e

  refusing : (r : Refusal) → First (sheet_rows w others) r → located n w others ≡ Err r
  refusing r f = first_refusals.refuses Located Err (sheet_rows w others) (Ok (found_on n w)) r f

  finding : (f : Found) → NoneApplies (sheet_rows w others) → found_on n w ≡ f → located n w others ≡ Ok f
  finding f e d = first_refusals.grants Located Err (sheet_rows w others) (Ok (found_on n w)) e ∙ ap Ok d

  found_by : (f : Found) → located n w others ≡ Ok f → NoneApplies (sheet_rows w others) × (found_on n w ≡ f)
  found_by f e = go (first_refusals.either (sheet_rows w others))
    where
      go : ((m : Refusal) × First (sheet_rows w others) m) ⊎ NoneApplies (sheet_rows w others) → NoneApplies (sheet_rows w others) × (found_on n w ≡ f)
      go (inl x) = let d = refusing x.0 x.1 in let z : ◌≡◌ {A = ℕ} 0 1 = cc in absurd (omega arith)
      go (inr x) = let d = finding (found_on n w) x refl in (x, cc)

-- behind the rows of every sheet, on a sheet of a right size that is not corrupt
module _ (w : List ℕ) (s : Contents) (size : size_ok w ≡ true) (reads : read w ≡ some s) (rows : List Row) where
  pub behind : (m : Refusal) → First rows m → First (sheet_rows w rows) m
  behind m f = inr (rw size refl, inr (rw reads refl, f))

  pub all_behind : NoneApplies rows → NoneApplies (sheet_rows w rows)
  all_behind e = (rw size refl, (rw reads refl, e))

-- the sheet is whole, and f is what it has for n
pub record Whole (n : ℕ) (w : List ℕ) (f : Found) : Type 0 where
  pub size : size_ok w ≡ true
  pub contents : Contents
  pub reads : read w ≡ some contents
  pub is : f ≡ found n (find n contents.lots) (last_below n 0 contents.lots) (records_of contents.lots)

-- and n is on it
pub record WithLot (n : ℕ) (w : List ℕ) (f : Found) : Type 0 where
  pub size : size_ok w ≡ true
  pub contents : Contents
  pub reads : read w ≡ some contents
  pub lot : Lot
  pub finds : find n contents.lots ≡ some lot
  pub is : f ≡ found n (some lot) (last_below n 0 contents.lots) (records_of contents.lots)

-- so rows 1 and 3 do not apply
pub whole_sheet : (n : ℕ) (w : List ℕ) (f : Found) → Whole n w f → WholeSheet w
whole_sheet n w f k = record { size = k.size; intact = ap is_some k.reads }

pub lot_whole_sheet : (n : ℕ) (w : List ℕ) (f : Found) → WithLot n w f → WholeSheet w
lot_whole_sheet n w f k = record { size = k.size; intact = ap is_some k.reads }

module _ (n : ℕ) (w : List ℕ) where
  -- ---- what the tests say

  pub wrong_size : size_ok w ≡ false → located n w [] ≡ Err refusal.Size
  wrong_size z = refusing n w [] refusal.Size (inl (rw z refl, refl))

  no_contents : size_ok w ≡ true → read w ≡ none → located n w [] ≡ Err refusal.Corrupt
  no_contents z r = refusing n w [] refusal.Corrupt (inr (rw z refl, inl (rw r refl, refl)))

  pub too_many_shares : size_ok w ≡ true → shares_fit (share w) w ≡ false → located n w [] ≡ Err refusal.Corrupt
  unfolding read
  too_many_shares z u = no_contents z (rw u refl)

  -- where the shares fit, the sheet is what is read from its first record on
  fitting : shares_fit (share w) w ≡ true → read w ≡ read_from first_record w
  unfolding read
  fitting u = rw u refl

  corrupt : size_ok w ≡ true → shares_fit (share w) w ≡ true → survey_of n (read_from first_record w) ≡ None → located n w [] ≡ Err refusal.Corrupt
  corrupt z u e = go (read w) refl (rw (fitting u) e)
    where
      go : (o : Option Contents) → read w ≡ o → survey_of n o ≡ None → located n w [] ≡ Err refusal.Corrupt
      go none r e = no_contents z r
      go (some s) r e = let y : ◌≡◌ {A = ℕ} 0 1 = cc in absurd (omega arith)

  intact : (f : Found) → size_ok w ≡ true → shares_fit (share w) w ≡ true → survey_of n (read_from first_record w) ≡ Some f → located n w [] ≡ Ok f
  intact f z u e = go (read w) refl (rw (fitting u) e)
    where
      go : (o : Option Contents) → read w ≡ o → survey_of n o ≡ Some f → located n w [] ≡ Ok f
      go none r e = let y : ◌≡◌ {A = ℕ} 0 1 = cc in absurd (omega arith)
      go (some s) r e =
          let same : found n (find n s.lots) (last_below n 0 s.lots) (records_of s.lots) ≡ f = cc in
          finding n w [] f (all_behind w s z r [] tt) (rw r same)

  -- what the survey counted is what the offices hold of the sheet
  counted_on : (f : Found) (h : List ℕ) → shares_fit (share w) w ≡ true → Counted (Some f) (then (read_from first_record w) (λ s. some s.lots)) h → HeldBy (contents w).lots h
  counted_on f h u c = go (read w) refl (rw (← fitting u) at c)
    where
      go : (o : Option Contents) → read w ≡ o → (ls : List Lot) × (then o (λ s. some s.lots) ≡ some ls) × HeldBy ls h → HeldBy (contents w).lots h
      go none r k = let e = k.1 in let z : ◌≡◌ {A = ℕ} 0 1 = cc in absurd (omega arith)
      go (some s) r k = let e = k.1 in let same : k.0 ≡ s.lots = cc in rw (r, ← same) k.2

  -- by what the survey gave
  pub by_survey : size_ok w ≡ true → shares_fit (share w) w ≡ true → (v : std.Option Found) → v ≡ survey_of n (read_from first_record w) → ok_or v refusal.Corrupt ≡ located n w []
  by_survey z u None e = sym (corrupt z u (sym e))
  by_survey z u (Some f) e = sym (intact f z u (sym e))

  pub counted_by_survey : shares_fit (share w) w ≡ true → (v : std.Option Found) (h : List ℕ) → Counted v (then (read_from first_record w) (λ s. some s.lots)) h
      → CountedOn w (ok_or v refusal.Corrupt) h
  counted_by_survey u None h c = tt
  counted_by_survey u (Some f) h c = counted_on f h u c

  -- ---- what follows

  pub whole : (f : Found) → located n w [] ≡ Ok f → Whole n w f
  whole f e =
      let x = found_by n w [] f e in
      let s = some_value (read w) x.0.1.0 in
      record { size = not-false (size_ok w) x.0.0; contents = s.0; reads = s.1; is = sym (rw s.1 at x.1) }

  -- a lot's record is not the header
  module _ (f : Found) (k : Whole n w f) where
    pub absent : f.at ≡ 0 → find n k.contents.lots ≡ none
    absent e = go (find n k.contents.lots) refl
      where
        go : (o : Option Lot) → find n k.contents.lots ≡ o → o ≡ none
        go none z = refl
        go (some l) z =
            let at_is : f.at ≡ l.at = ap (λ (g : Found). g.at) (rw z at k.is) in
            absurd (omega (arith, lot_after_header w k.contents k.size k.reads n l z))

    pub present : f.at ≢ 0 → (l : Lot) × (find n k.contents.lots ≡ some l)
    present d = go (find n k.contents.lots) refl
      where
        go : (o : Option Lot) → find n k.contents.lots ≡ o → (l : Lot) × (o ≡ some l)
        go none z = absurd (d (ap (λ (g : Found). g.at) (rw z at k.is)))
        go (some l) z = (l, refl)

    pub not_there : f.at ≡ 0 → located n w (lot_rows (standing n w) []) ≡ Err refusal.NoLot
    not_there e = refusing n w (lot_rows (standing n w) []) refusal.NoLot (behind w k.contents k.size k.reads (lot_rows (standing n w) []) refusal.NoLot (inl (rw (k.reads, absent e) refl, refl)))

    pub there : f.at ≢ 0 → located n w (lot_rows (standing n w) []) ≡ Ok f
    there d =
        let l = present d in
        let is : f ≡ found n (some l.0) (last_below n 0 k.contents.lots) (records_of k.contents.lots) = rw l.1 at k.is in
        finding n w (lot_rows (standing n w) []) f (all_behind w k.contents k.size k.reads (lot_rows (standing n w) []) (rw (k.reads, l.1) refl, tt)) (rw (k.reads, l.1) (sym is))

  -- a refusal by rows 1 and 3 is one by rows 1, 3 and 6
  pub still_refused : (r : Refusal) → located n w [] ≡ Err r → located n w (lot_rows (standing n w) []) ≡ Err r
  still_refused r e = refusing n w (lot_rows (standing n w) []) r (first_append (sheet_rows w []) (lot_rows (standing n w) []) r (refused_first n w [] r e))

  pub with_lot : (f : Found) → located n w (lot_rows (standing n w) []) ≡ Ok f → WithLot n w f
  with_lot f e =
      let x = found_by n w (lot_rows (standing n w) []) f e in
      let s = some_value (read w) x.0.1.0 in
      let l = some_lot (find n s.0.lots) (rw s.1 at x.0.1.1.0) in
      record { size = not-false (size_ok w) x.0.0; contents = s.0; reads = s.1; lot = l.0; finds = l.1; is = sym (rw (s.1, l.1) at x.1) }
