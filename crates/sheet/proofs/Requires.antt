-- What the functions that write require holds of every sheet that is not corrupt, where the call is not refused: the facts
-- with which open, inspect, strike and close call them. Assumes nothing.
use Prim.Native.Nat.{ℕ, ◌+◌, ◌≤◌, ◌<◌}
use mathlib.Core.Path.{◌≡◌, refl, sym, ap}
use mathlib.Core.Logic.{◌≢◌}
use mathlib.Core.Bool.{true, false}
use mathlib.Core.Option.{some}
use mathlib.Core.List.{List, [], ◌∷◌}
use native.Mathlib.Omega.{arith}
use lib.ListN.{length}
use Rattle.plan.specs.declared.stage.Answer.{Answer}
use Rattle.plan.specs.declared.stage.Answer.TheVariants.{GoOn, Accept, Reject}
use Rattle.plan.specs.Counts.{counts, units}
use Rattle.plan.proofs.Promise.{shape, promise, counting}
use Rattle.sheetmodel.specs.Layout.{largest, size_ok, word, newest, next_unused, first_lot, first_free, first_record, plan_words, closed_lots, most_closed}
use Rattle.sheetmodel.specs.Contents.{Inspection, Lot, Contents, history, find, records_of}
use Rattle.sheetmodel.specs.Holds.{Inspections, Free, Holds}
use Rattle.sheetmodel.specs.Read.{read, serial_at}
use Rattle.sheetmodel.specs.Rows.{is_some}
use Rattle.sheetmodel.specs.Calls.{full, last_below, predecessor, lots_total, lot_answer}
use Rattle.sheet.specs.Survey.{Sized}
use Rattle.sheet.specs.Writes.{InWords, Room, Freeing, Striking, TotalsFit, Closing, read_chain, lot_at}
use Rattle.sheet.proofs.Sizes.{long_enough, short_enough}
use Rattle.sheetmodel.proofs.ForSheet.{reads_a_sheet, reads_inspections, serials, depths, records_of_parts, Prior, prior_header, took, Found, find_lot, within, found_history}

-- the front of a free chain is 0 or a record in use
record Front (hi at : ℕ) : Type 0 where
  low : 1 ≤ at → first_record ≤ at
  high : at < hi

front_of : (w : List ℕ) (hi at : ℕ) (js : List ℕ) → first_record ≤ hi → Free first_record w hi js at → Front hi at
front_of w hi at [] begun h = record { low = λ one. absurd (omega arith); high = omega arith }
front_of w hi at (j ∷ js) begun h = let x = h.0 in record { low = λ one. omega (arith, x.here, x.low); high = omega (arith, x.here, x.high) }

-- one total of lots is at most both
one_total : (w : List ℕ) (a : Answer) → word w (lots_total a) ≤ closed_lots w
one_total w GoOn = omega arith
one_total w Accept = omega arith
one_total w Reject = omega arith

-- a sheet of an allowed size that is not corrupt
module _ (w : List ℕ) (s : Contents) (size : size_ok w ≡ true) (r : read w ≡ some s) where
  pub holds : Holds first_record w s
  holds = ((reads_a_sheet w s).0 r).1

  pub sized : Sized w
  sized = record {
    long = omega (arith, long_enough w size);
    short = short_enough w size;
    room = holds.room;
  }

  room : full w ≡ false → Room w
  room spare =
      let t = took first_record (omega arith) w (long_enough w size) holds.begun holds.room spare s.free holds.free in
      record { long = long_enough w size; short = sized.short; inside = omega (arith, t.high, t.room) }

  prior : (n : ℕ) → 1 ≤ last_below n 0 s.lots → Prior first_record w (word w next_unused) 0 n (last_below n 0 s.lots)
  prior n = prior_header first_record (omega arith) w (word w next_unused) n s.lots 0 (word w first_lot) holds.lots

  predecessor_in : (n : ℕ) → InWords w (predecessor n w)
  predecessor_in n = rw r (within first_record w n (last_below n 0 s.lots) (long_enough w size) holds.room (prior n))

  front : Front (word w next_unused) (word w first_free)
  front = front_of w (word w next_unused) (word w first_free) s.free holds.begun holds.free

  pub freeing : (n : ℕ) → n ≤ length w → Freeing w n
  freeing n few = record {
    sized = sized;
    front = omega (arith, front.high, holds.room);
    deep = omega (arith, depths first_record (omega arith) w (word w next_unused) s.free holds.free, holds.count, holds.room, sized.short);
  }

  -- open
  pub can_open : (n : ℕ) → full w ≡ false → Room w × InWords w (predecessor n w)
  can_open n spare = (room spare, predecessor_in n)

  -- the lot that n finds
  module _ (n : ℕ) (l : Lot) (e : find n s.lots ≡ some l) where
    pub on_chain : Found first_record w (word w next_unused) n (last_below n 0 s.lots) s.lots l
    on_chain = find_lot first_record (omega arith) w (word w next_unused) s.lots l holds.lots n e

    pub lot_after_header : first_record ≤ l.at
    lot_after_header = on_chain.here.low

    pub inside : InWords w l.at
    inside = omega (arith, on_chain.here.high, holds.room)

    few : length l.inspections + 1 ≤ length w
    few = omega (arith, records_of_parts n s.lots, ap records_of on_chain.parts, holds.count, holds.room)

    -- inspect
    pub can_inspect : full w ≡ false → Room w × InWords w l.at × (length l.inspections < largest)
    can_inspect spare = (room spare, inside, omega (arith, few, sized.short))

    -- strike
    pub can_strike : length l.inspections ≢ 0 → Striking w l.at
    can_strike some_inspection = record {
      freeing = freeing 1 (omega (arith, long_enough w size));
      after_header = lot_after_header;
      inside = inside;
      some_inspection = go l.inspections on_chain.inspections some_inspection;
    }
      where
        go : (is : List Inspection) → Inspections first_record w (word w next_unused) l.at is (newest w l.at) → length is ≢ 0 → InWords w (newest w l.at)
        go [] h d = absurd (d refl)
        go (i ∷ is) h d = omega (arith, h.0.here, h.0.high, holds.room)

    -- its record holds it
    chain_is : read_chain w l.at (serial_at w (newest w l.at)) (newest w l.at) ≡ some l.inspections
    chain_is =
        let held = on_chain.inspections in
        rw (serials first_record (omega arith) w l.at (newest w l.at) l.inspections held)
        (reads_inspections first_record (omega arith) w l.at (newest w l.at) l.inspections held)

    pub lot_is : lot_at w l.at ≡ l
    lot_is = rw (on_chain.here.numbered, chain_is)

    -- it has no more units than a complete sample
    pub few_units : units (counts (history l)) ≤ 1000
    few_units =
        let p = plan_words w in
        let h = found_history first_record (omega arith) w s holds n l e in
        omega (arith, counting.length_of (history l), (promise p holds.plan).no_longer (history l) h, (shape p holds.plan).thousand_units)

    totals_fit : closed_lots w < most_closed → TotalsFit w (lot_answer w l) (counts (history l))
    totals_fit more = record {
      long = long_enough w size;
      lots = omega (arith, one_total w (lot_answer w l));
      good = omega (arith, few_units, holds.units_bound);
      marginal = omega (arith, few_units, holds.units_bound);
      bad = omega (arith, few_units, holds.units_bound);
    }

    -- close
    pub can_close : closed_lots w < most_closed → Closing w l.at (predecessor n w) (lot_answer w l) (counts (history l))
    can_close more = record {
      freeing = rw (ap (λ (k : Lot). length k.inspections) lot_is) (freeing (length l.inspections + 1) few);
      fit = totals_fit more;
      after_header = lot_after_header;
      inside = inside;
      front_after_header = front.low;
      before_inside = predecessor_in n;
      before_lot = rw r (λ one. (prior n one).tag);
      whole = ap is_some chain_is;
      answered = ap (lot_answer w) (sym lot_is);
      counted = ap (λ (k : Lot). counts (history k)) (sym lot_is);
      few = few_units;
    }
