-- What can still be freed once a link was changed: that of a lot to its newest inspection, or that to a lot.
-- Assumes nothing.
use Prim.Native.Nat.{ℕ, zero, suc, ◌+◌, ◌*◌, ◌≤◌, ◌<◌}
use mathlib.Core.Path.{◌≡◌, refl, ap, ◌∙◌}
use mathlib.Core.Logic.{◌≢◌}
use mathlib.Core.Option.{some}
use mathlib.Core.List.{List}
use native.Mathlib.Omega.{arith}
use lib.ListN.{length, length-set}
use Rattle.plan.specs.declared.counts.Counts.{Counts}
use Rattle.plan.specs.declared.stage.Answer.{Answer}
use Rattle.plan.specs.Counts.{units}
use Rattle.sheetmodel.specs.Layout.{word, field, next, newest, put, next_unused, first_free, first_record}
use Rattle.sheetmodel.specs.Holds.{Inspections}
use Rattle.sheetmodel.specs.Read.{serial_at, depth}
use Rattle.sheetmodel.specs.Calls.{lots_total, add_totals, free_record, free_inspections, free_lot, without_lot}
use Rattle.sheet.specs.Writes.{Freeing, Closing, read_chain, chain, lot_at}
use Rattle.sheetmodel.proofs.ForSheet.{Same, same_trans, word_set, same_put, keep_inspections, reads_inspections, sound_inspections, Totalled, units_of}
use Rattle.sheet.proofs.FreedChain.{same_depth, is_read}
use Rattle.sheet.proofs.TotalsKept.{lots_total_in, all_totalled}

-- words with the same front of the free chain
still_freeing : (w v : List ℕ) (n : ℕ) → length v ≡ length w → word v next_unused ≡ word w next_unused → word v first_free ≡ word w first_free → depth v ≡ depth w → Freeing w n → Freeing v n
still_freeing w v n len unused front deep f =
    let z = f.sized in
    record {
      sized = record { long = omega (arith, z.long); short = omega (arith, z.short); room = omega (arith, z.room) };
      front = omega (arith, f.front);
      deep = omega (arith, f.deep);
    }

-- strike: the lot's link to its newest inspection
pub unlinked_newest : (w : List ℕ) (at v : ℕ) → first_record ≤ at → Freeing w 1 → Freeing (put w at 2 v) 1
unlinked_newest w at v low f =
    let u = put w at 2 v in
    let front = word_set w (4 * at + 2) first_free v (omega arith) in
    still_freeing w u 1 (length-set w (4 * at + 2) v) (word_set w (4 * at + 2) next_unused v (omega arith)) front
    (same_depth w u front (word_set w (4 * at + 2) (4 * word w first_free + 0) v (omega arith))) f

-- close: the totals grow, and the link at `before` goes to the next lot
abbrev pub unlinked_lot : List ℕ → ℕ → ℕ → Answer → Counts → List ℕ
unlinked_lot w at before answer c = put (add_totals w answer c) before 1 (next w at)

module _ (w : List ℕ) (at before : ℕ) (answer : Answer) (c : Counts) (ready : Closing w at before answer c) where
  abbrev v : List ℕ
  v = unlinked_lot w at before answer c

  totals : Totalled w (add_totals w answer c) (lots_total answer) 1 c
  totals = all_totalled w answer c ready.fit.long

  -- a word of the header that is no total and not the first lot
  header : (i : ℕ) → i ≢ 1 → i < 4 → word v i ≡ word w i
  header i d b =
      word_set (add_totals w answer c) (4 * before + 1) i (next w at) (omega (arith, d)) ∙ totals.other i (omega arith) (omega (arith, lots_total_in answer))

  -- a record that is not `before`
  same : (q : ℕ) → first_record ≤ q → q ≢ before → Same w v q
  same q h d = same_trans (totals.same q h) (same_put (add_totals w answer c) before 1 q (next w at) (omega arith) d)

  long : length v ≡ length w
  long = length-set (add_totals w answer c) (4 * before + 1) (next w at) ∙ totals.len

  units_are : units c ≡ length (lot_at w at).inspections
  units_are = ap units ready.counted ∙ units_of (lot_at w at).inspections

  -- the lot's inspections are read as before
  pub chain_kept : read_chain v at (units c) (newest w at) ≡ some (lot_at w at).inspections
  chain_kept =
      let is = (lot_at w at).inspections in
      let hi = word w next_unused in
      let unused = header next_unused (omega arith) (omega arith) in
      let n = serial_at w (newest w at) in
      let held : Inspections first_record w hi at is (newest w at) = (sound_inspections first_record w at n (newest w at) is (is_read (read_chain w at n (newest w at)) ready.whole)).0 in
      let kept : Inspections first_record v (word v next_unused) at is (newest w at) =
      keep_inspections first_record w v hi (word v next_unused) (omega arith) at is (newest w at) (newest w at) refl
      (λ q m. same q m.low (λ e. omega (arith, m.low, m.some_serial, ap (λ (k : ℕ). field w k 3) e, ready.before_lot (omega (arith, m.low))))) held in
      rw units_are (reads_inspections first_record (omega arith) v at (newest w at) is kept)

  front_kept : (f : ℕ) → (1 ≤ f → first_record ≤ f) → field v f 0 ≡ field w f 0
  front_kept zero h = header 0 (omega arith) (omega arith)
  front_kept (suc f) h =
      word_set (add_totals w answer c) (4 * before + 1) (4 * suc f + 0) (next w at) (omega arith) ∙ (totals.same (suc f) (h (omega arith))).f0

  pub still_closing : Freeing v (units c + 1)
  still_closing =
      let front = header first_free (omega arith) (omega arith) in
      rw units_are
      (still_freeing w v (length (lot_at w at).inspections + 1) long (header next_unused (omega arith) (omega arith)) front
      (same_depth w v front (front_kept (word w first_free) ready.front_after_header)) ready.freeing)

  pub closed_words : free_record (free_inspections v (chain v at (units c) (newest w at))) at ≡ without_lot w before (lot_at w at)
  unfolding without_lot free_lot
  closed_words = rw (chain_kept, ready.answered, ready.counted)
