-- What open, inspect, strike, close, look and tally reply and leave, by what their code has tested, and what the functions
-- that write require there. Assumes nothing.
use Prim.Native.Nat.{ℕ, ◌≤◌, ◌<◌}
use mathlib.Core.Path.{◌≡◌, refl, sym, ap, ◌∙◌}
use mathlib.Core.Logic.{◌≢◌, inl, inr}
use mathlib.Core.Bool.{Bool, true, false, not}
use mathlib.Core.Option.{Option, none, some}
use mathlib.Core.List.{List, [], ◌++◌}
use lib.ListN.{length}
use borrow.Author.Tests.{lt-ltb, le-ltb, eq-eqb, ne_eqb, leb-false}
use Rattle.plan.specs.Plan.{stages, admitted}
use Rattle.plan.specs.Counts.{counts, units}
use Rattle.plan.specs.Blanks.{blanks}
use Rattle.plan.specs.Stopping.{earliest}
use Rattle.std.specs.declared.result.Result.{Result}
use Rattle.std.specs.declared.result.Result.TheVariants.{Ok, Err}
use Rattle.plan.specs.declared.refusal.Refusal.{Refusal}
use Rattle.plan.specs.declared.refusal.Refusal.TheVariants as refusal
use Rattle.plan.specs.Refusal.{Row, First, NoneApplies}
use Rattle.plan.proofs.Refusals.{first_append, first_after, none_append}
use Rattle.sheet.specs.declared.survey.Found.{Found}
use Rattle.plan.specs.Sample.{highest_class}
use Rattle.sheetmodel.specs.Layout.{largest, least_size, newest, plan_words, totals, closed_lots, most_closed}
use Rattle.sheetmodel.specs.Contents.{Lot, history, find, records_of}
use Rattle.sheetmodel.specs.Read.{undecided}
use Rattle.sheetmodel.specs.Rows.{is_some, classes_in, answer_to, open_own, lot_rows, inspect_own, strike_own, close_own, record_rows, totals_rows}
use Rattle.sheetmodel.specs.Calls.{Outcome, standing, lot, full, held_back, tally_full, sheet_rows, last_below, predecessor, new_record, open_lot, open_rows, with_lot, inspect, inspect_rows, with_inspection, strike, strike_rows, without_newest, close, close_rows, without_lot, look, look_rows, shown, tally, tally_rows}
use Rattle.sheet.specs.Writes.{InWords, Room, Striking, Closing, lot_at}
use Rattle.sheet.specs.Survey.{found}
use Rattle.sheet.specs.Locating.{located}
use Rattle.sheet.specs.Granting.{grant_by}
use Rattle.sheetmodel.proofs.ForSheet.{length_classes, units_of, refuses, grants}
use Rattle.sheet.proofs.Sizes.{long_enough}
use Rattle.sheet.proofs.Requires.{holds, inside, can_open, can_inspect, can_strike, lot_is, can_close, few_units}
use Rattle.sheet.proofs.LocatedFacts.{Whole, WithLot, refused_first, behind, all_behind, absent, present}
use Rattle.sheet.proofs.GrantFacts.{denied, given}

abbrev Done : Type 0
Done = Outcome (Result (Unit {0}) Refusal)

abbrev refused : List ℕ → Refusal → Done
refused w r = record { reply = Err r; words = w }

abbrev ok : List ℕ → Done
ok v = record { reply = Ok tt; words = v }

found_before : (n : ℕ) (o : Option Lot) (b u : ℕ) → (found n o b u).before ≡ b
found_before n none b u = refl
found_before n (some l) b u = refl

-- ---- open

module _ (n : ℕ) (w : List ℕ) where
  -- a record is needed for the lot n
  abbrev pub needed : List Row
  needed = record_rows (full w) (held_back n w)

  pub open_refused : (r : Refusal) → located n w [] ≡ Err r → open_lot n w ≡ refused w r
  unfolding open_lot open_rows
  open_refused r e = refuses w tt _ (open_rows n w) r (first_append (sheet_rows w []) (open_own n (standing n w) ++ needed) r (refused_first n w [] r e))

  module _ (f : Found) (k : Whole n w f) where
    open_row : (r : Refusal) → First (open_own n (standing n w) ++ needed) r → open_lot n w ≡ refused w r
    unfolding open_lot open_rows
    open_row r x = refuses w tt _ (open_rows n w) r (behind w k.contents k.size k.reads (open_own n (standing n w) ++ needed) r x)

    pub open_zero : n ≡ 0 → open_lot n w ≡ refused w refusal.LotZero
    open_zero e = open_row refusal.LotZero (inl (eq-eqb n 0 e, refl))

    pub open_there : n ≢ 0 → f.at ≢ 0 → open_lot n w ≡ refused w refusal.LotOpen
    open_there d e = open_row refusal.LotOpen (inr (ne_eqb n 0 d, inl (rw (k.reads, (present n w f k e).1) refl, refl)))

    new_lot : n ≢ 0 → f.at ≡ 0 → NoneApplies (open_own n (standing n w))
    new_lot d e = (ne_eqb n 0 d, (rw (k.reads, absent n w f k e) refl, tt))

    pub open_denied : n ≢ 0 → f.at ≡ 0 → (r : Refusal) → grant_by needed ≡ Err r → open_lot n w ≡ refused w r
    open_denied d e r g = open_row r (first_after (open_own n (standing n w)) needed r (new_lot d e) (denied needed r g))

    before_is : f.before ≡ predecessor n w
    before_is = rw k.reads (ap (λ (g : Found). g.before) k.is ∙ found_before n (find n k.contents.lots) (last_below n 0 k.contents.lots) (records_of k.contents.lots))

    pub open_requires : grant_by needed ≡ Ok tt → Room w × InWords w f.before
    open_requires g = rw before_is (can_open w k.contents k.size k.reads n (given needed tt g).0)

    pub open_granted : n ≢ 0 → f.at ≡ 0 → grant_by needed ≡ Ok tt → open_lot n w ≡ ok (with_lot w n f.before (new_record w))
    unfolding open_lot open_rows
    open_granted d e g =
        grants w tt _ (open_rows n w)
        (all_behind w k.contents k.size k.reads (open_own n (standing n w) ++ needed) (none_append (open_own n (standing n w)) needed (new_lot d e) (given needed tt g))) ∙
        ap (λ (before : ℕ). ok (with_lot w n before (new_record w))) (sym before_is)

-- ---- the calls on a lot

module _ (n : ℕ) (w : List ℕ) (f : Found) (k : WithLot n w f) where
  pub at_is : f.at ≡ k.lot.at
  at_is = ap (λ (g : Found). g.at) k.is

  lot_before_is : f.before ≡ predecessor n w
  lot_before_is = rw k.reads (ap (λ (g : Found). g.before) k.is)

  pub counts_are : f.chain.counts ≡ counts (history k.lot)
  counts_are = ap (λ (g : Found). g.chain.counts) k.is

  blanks_are : f.chain.blanks ≡ blanks (history k.lot)
  blanks_are = ap (λ (g : Found). g.chain.blanks) k.is

  units_are : units f.chain.counts ≡ length k.lot.inspections
  units_are = ap units counts_are ∙ units_of k.lot.inspections

  pub long : least_size ≤ length w
  long = long_enough w k.size

  pub lot_inside : InWords w f.at
  lot_inside = rw (at_is) (inside w k.contents k.size k.reads n k.lot k.finds)

  pub few : units f.chain.counts ≤ 1000
  few = rw counts_are (few_units w k.contents k.size k.reads n k.lot k.finds)

  pub answer_requires : (least_size ≤ length w) × (admitted (plan_words w) ≡ true) × (units f.chain.counts ≤ 1000)
  answer_requires = (long, (holds w k.contents k.size k.reads).plan, few)

  pub standing_is : standing n w ≡ some (history k.lot)
  standing_is = rw (k.reads, k.finds) refl

  lot_is_there : not (is_some (standing n w)) ≡ false
  lot_is_there = rw standing_is refl

  pub found_lot : lot n w ≡ k.lot
  found_lot = rw (k.reads, k.finds) refl

  pub answer_is : answer_to (plan_words w) (standing n w) ≡ earliest (stages (plan_words w)) f.chain.counts
  answer_is = rw standing_is (ap (earliest (stages (plan_words w))) (sym counts_are))

  -- the answer that the code found, as the rows ask for it
  pub as_rows_ask : (b : Bool) → undecided (earliest (stages (plan_words w)) f.chain.counts) ≡ b → undecided (answer_to (plan_words w) (standing n w)) ≡ b
  as_rows_ask b u = ap undecided answer_is ∙ u

  -- behind rows 1, 3 and 6
  pub past_lot : (rest : List Row) (r : Refusal) → First rest r → First (sheet_rows w (lot_rows (standing n w) rest)) r
  past_lot rest r x = behind w k.contents k.size k.reads (lot_rows (standing n w) rest) r (inr (lot_is_there, x))

  pub all_past_lot : (rest : List Row) → NoneApplies rest → NoneApplies (sheet_rows w (lot_rows (standing n w) rest))
  all_past_lot rest x = all_behind w k.contents k.size k.reads (lot_rows (standing n w) rest) (lot_is_there, x)

-- a refusal by rows 1, 3 and 6
pub first_rows : (n : ℕ) (w : List ℕ) (rest : List Row) (r : Refusal) → located n w (lot_rows (standing n w) []) ≡ Err r → First (sheet_rows w (lot_rows (standing n w) rest)) r
first_rows n w rest r e = first_append (sheet_rows w (lot_rows (standing n w) [])) rest r (refused_first n w (lot_rows (standing n w) []) r e)

-- ---- inspect

module _ (n c : ℕ) (w : List ℕ) where
  abbrev inspect_rest : List Row
  inspect_rest = inspect_own (plan_words w) (standing n w) c ++ needed n w

  pub inspect_refused : (r : Refusal) → located n w (lot_rows (standing n w) []) ≡ Err r → inspect n c w ≡ refused w r
  unfolding inspect inspect_rows
  inspect_refused r e = refuses w tt _ (inspect_rows n c w) r (first_rows n w inspect_rest r e)

  module _ (f : Found) (k : WithLot n w f) where
    inspect_row : (r : Refusal) → First inspect_rest r → inspect n c w ≡ refused w r
    unfolding inspect inspect_rows
    inspect_row r x = refuses w tt _ (inspect_rows n c w) r (past_lot n w f k inspect_rest r x)

    pub inspect_class : highest_class < c → inspect n c w ≡ refused w refusal.Class
    inspect_class h = inspect_row refusal.Class (inl (lt-ltb highest_class c h, refl))

    module _ (h : c ≤ highest_class) where
      pub inspect_decided : undecided (earliest (stages (plan_words w)) f.chain.counts) ≡ false → inspect n c w ≡ refused w refusal.Decided
      inspect_decided u = inspect_row refusal.Decided (inr (le-ltb highest_class c h, inl (rw (as_rows_ask n w f k false u) refl, refl)))

      module _ (u : undecided (earliest (stages (plan_words w)) f.chain.counts) ≡ true) where
        pub inspect_denied : (r : Refusal) → grant_by (needed n w) ≡ Err r → inspect n c w ≡ refused w r
        inspect_denied r g = inspect_row r (inr (le-ltb highest_class c h, inr (rw (as_rows_ask n w f k true u) refl, denied (needed n w) r g)))

        pub inspect_granted : grant_by (needed n w) ≡ Ok tt → inspect n c w ≡ ok (with_inspection w f.at (units f.chain.counts) c (new_record w))
        unfolding inspect inspect_rows
        inspect_granted g =
            grants w tt _ (inspect_rows n c w)
            (all_past_lot n w f k inspect_rest (le-ltb highest_class c h, (rw (as_rows_ask n w f k true u) refl, given (needed n w) tt g))) ∙
            ap ok (rw (found_lot n w f k, at_is n w f k, units_are n w f k))

    pub inspect_requires : grant_by (needed n w) ≡ Ok tt → Room w × InWords w f.at × (units f.chain.counts < largest)
    inspect_requires g =
        rw (at_is n w f k, units_are n w f k) (can_inspect w k.contents k.size k.reads n k.lot k.finds (given (needed n w) tt g).0)

-- ---- strike

module _ (n : ℕ) (w : List ℕ) where
  pub strike_refused : (r : Refusal) → located n w (lot_rows (standing n w) []) ≡ Err r → strike n w ≡ refused w r
  unfolding strike strike_rows
  strike_refused r e = refuses w tt _ (strike_rows n w) r (first_rows n w (strike_own (standing n w)) r e)

  module _ (f : Found) (k : WithLot n w f) where
    inspections_are : length (classes_in (standing n w)) ≡ units f.chain.counts
    inspections_are = rw (standing_is n w f k) (length_classes k.lot.inspections ∙ sym (units_are n w f k))

    pub strike_none : units f.chain.counts ≡ 0 → strike n w ≡ refused w refusal.NoUnit
    unfolding strike strike_rows
    strike_none e = refuses w tt _ (strike_rows n w) refusal.NoUnit (past_lot n w f k (strike_own (standing n w)) refusal.NoUnit (inl (eq-eqb (length (classes_in (standing n w))) 0 (inspections_are ∙ e), refl)))

    pub strike_requires : units f.chain.counts ≢ 0 → Striking w f.at
    strike_requires d = rw (at_is n w f k) (can_strike w k.contents k.size k.reads n k.lot k.finds (λ e. d (units_are n w f k ∙ e)))

    pub strike_granted : units f.chain.counts ≢ 0 → strike n w ≡ ok (without_newest w f.at (newest w f.at))
    unfolding strike strike_rows
    strike_granted d =
        grants w tt _ (strike_rows n w) (all_past_lot n w f k (strike_own (standing n w)) (ne_eqb (length (classes_in (standing n w))) 0 (λ e. d (sym inspections_are ∙ e)), tt)) ∙
        ap ok (rw (found_lot n w f k, at_is n w f k))

-- ---- close

module _ (n : ℕ) (w : List ℕ) where
  abbrev close_rest : List Row
  close_rest = close_own (plan_words w) (standing n w) ++ totals_rows (tally_full w)

  pub close_refused : (r : Refusal) → located n w (lot_rows (standing n w) []) ≡ Err r → close n w ≡ refused w r
  unfolding close close_rows
  close_refused r e = refuses w tt _ (close_rows n w) r (first_rows n w close_rest r e)

  module _ (f : Found) (k : WithLot n w f) where
    pub close_undecided : undecided (earliest (stages (plan_words w)) f.chain.counts) ≡ true → close n w ≡ refused w refusal.Undecided
    unfolding close close_rows
    close_undecided u = refuses w tt _ (close_rows n w) refusal.Undecided (past_lot n w f k close_rest refusal.Undecided (inl (as_rows_ask n w f k true u, refl)))

    module _ (u : undecided (earliest (stages (plan_words w)) f.chain.counts) ≡ false) where
      pub close_full : tally_full w ≡ true → close n w ≡ refused w refusal.TotalsFull
      unfolding close close_rows
      close_full b = refuses w tt _ (close_rows n w) refusal.TotalsFull (past_lot n w f k close_rest refusal.TotalsFull (inr (as_rows_ask n w f k false u, inl (b, refl))))

      pub close_granted : tally_full w ≡ false → close n w ≡ ok (without_lot w f.before (lot_at w f.at))
      unfolding close close_rows
      close_granted b =
          let lot_same : lot_at w f.at ≡ k.lot = ap (lot_at w) (at_is n w f k) ∙ lot_is w k.contents k.size k.reads n k.lot k.finds in
          grants w tt _ (close_rows n w) (all_past_lot n w f k close_rest (as_rows_ask n w f k false u, (b, tt))) ∙
          ap ok (rw (found_lot n w f k, lot_before_is n w f k, lot_same))

    pub close_requires : tally_full w ≡ false → Closing w f.at f.before (earliest (stages (plan_words w)) f.chain.counts) f.chain.counts
    close_requires b =
        rw (at_is n w f k, lot_before_is n w f k, counts_are n w f k)
        (can_close w k.contents k.size k.reads n k.lot k.finds (leb-false most_closed (closed_lots w) b))

-- ---- look and tally

module _ (n : ℕ) (w : List ℕ) where
  pub look_refused : (r : Refusal) → located n w (lot_rows (standing n w) []) ≡ Err r → look n w ≡ record { reply = Err r; words = w }
  unfolding look look_rows
  look_refused r e = refuses w _ w (look_rows n w) r (first_rows n w [] r e)

  pub look_shown : (f : Found) (k : WithLot n w f) → look n w ≡ record { reply = Ok (shown (earliest (stages (plan_words w)) f.chain.counts) f.chain.counts f.chain.blanks); words = w }
  unfolding look look_rows
  look_shown f k = grants w _ w (look_rows n w) (all_past_lot n w f k [] tt) ∙ rw (found_lot n w f k, counts_are n w f k, blanks_are n w f k)

  pub tally_refused : (r : Refusal) → located n w [] ≡ Err r → tally w ≡ record { reply = Err r; words = w }
  unfolding tally tally_rows
  tally_refused r e = refuses w _ w (tally_rows w) r (refused_first n w [] r e)

  pub tally_shown : (f : Found) (k : Whole n w f) → tally w ≡ record { reply = Ok (totals w); words = w }
  unfolding tally tally_rows
  tally_shown f k = grants w _ w (tally_rows w) (all_behind w k.contents k.size k.reads [] tt)
