-- What a granted carry leaves is a start with the old sheet's plan, histories and totals. Assumes nothing.
use Prim.Native.Nat.{ℕ, ◌+◌, ◌*◌, ◌≤◌, ◌<◌}
use mathlib.Core.Path.{◌≡◌, refl, sym, ap, ◌∙◌, subst}
use mathlib.Core.Bool.{Bool, true, false, cond, ◌&&◌}
use mathlib.Core.Option
use mathlib.Core.Option.{none, some}
use mathlib.Core.List.{List, [], ◌∷◌, map, map-map, reverse}
use native.Mathlib.Omega.{arith}
use lib.ListN.{length, get_or, length-map}
use lib.Dec.{leb, eqb}
use borrow.Author.Tests.{eq-eqb, ne_eqb, leb-true, ltb-false, not-false}
use Rattle.plan.specs.declared.stage.Stage.{Stage}
use Rattle.plan.specs.Plan.{stages}
use Rattle.plan.specs.Refusal.{NoneApplies}
use Rattle.plan.proofs.Bools.{and_left, and_right}
use Rattle.std.specs.declared.result.Result.{Result}
use Rattle.std.specs.declared.result.Result.TheVariants.{Ok}
use Rattle.plan.specs.declared.refusal.Refusal.{Refusal}
use Rattle.sheetmodel.specs.declared.reply.Totals.{Totals}
use Rattle.sheetmodel.specs.Layout.{least_size, greatest_size, size_from, size_ok, word, field, next, newest, records, plan_words, next_unused, first_lot, first_free, stage_count, plan_room, accepted_lots, rejected_lots, good_units, marginal_units, bad_units, totals, closed_lots, closed_units, shares_start, first_record, offices, share, old_least_size, old_first_record}
use Rattle.sheetmodel.specs.Contents.{Inspection, Lot, Contents, history, find, records_of}
use Rattle.sheetmodel.specs.Offices.{shares_fit, held}
use Rattle.sheetmodel.specs.Holds.{Inspections, Lots, Free, UndecidedBefore, AllUndecidedBefore, Holds}
use Rattle.sheetmodel.specs.Read.{read_from}
use Rattle.sheetmodel.specs.Start.{Start}
use Rattle.sheetmodel.specs.Calls.{Outcome}
use Rattle.sheetmodel.specs.Carry.{raised, carry_words, carry_rows, carry}
use Rattle.sheetmodel.specs.Carried.{raised_inspection, raised_lot, raised_contents, histories_of, Carried, CarryIsAStart}
use Rattle.sheetmodel.proofs.Read.{reads}
use Rattle.sheetmodel.proofs.Shares.{fit_kept}
use Rattle.sheetmodel.proofs.Outcomes.{by_rows}
use Rattle.sheetmodel.proofs.Invariant.{plan_fits, same_plan, same_unused}
use Rattle.sheetmodel.proofs.Change.{some_value}
use Rattle.sheetmodel.proofs.Demand3.{from_any_start}
use Rattle.sheetmodel.proofs.Replies.{replies_by_history}
use Rattle.sheetmodel.proofs.Fairness.{fair_from_there_on}
use Rattle.sheetmodel.proofs.CarriedWords.{carried_length, header_kept, carried_share, carried_field, carried_past}

-- ---- raised contents have the same histories

same_history : (l : Lot) → history (raised_lot l) ≡ history l
same_history l = ap reverse (map-map (λ (i : Inspection). i.class) raised_inspection l.inspections)

same_finds : (n : ℕ) (ls : List Lot) → Option.map history (find n (map raised_lot ls)) ≡ Option.map history (find n ls)
same_finds n [] = refl
same_finds n (l ∷ ls) = go (eqb n l.number) (same_finds n ls)
  where
    go : (b : Bool) → Option.map history (find n (map raised_lot ls)) ≡ Option.map history (find n ls) →
        Option.map history (cond b (some (raised_lot l)) (find n (map raised_lot ls))) ≡ Option.map history (cond b (some l) (find n ls))
    go true later = ap (λ (h : List ℕ). some h) (same_history l)
    go false later = later

same_records : (ls : List Lot) → records_of (map raised_lot ls) ≡ records_of ls
same_records [] = refl
same_records (l ∷ ls) = omega (arith, same_records ls, length-map l.inspections raised_inspection)

same_held : (o : ℕ) (ls : List Lot) → held (map raised_lot ls) o ≡ held ls o
same_held o [] = refl
same_held o (l ∷ ls) = rw (length-map l.inspections raised_inspection, same_held o ls)

same_undecided : (p : List Stage) (ls : List Lot) → AllUndecidedBefore p ls → AllUndecidedBefore p (map raised_lot ls)
same_undecided p [] h = tt
same_undecided p (l ∷ ls) h = (subst (UndecidedBefore p) (sym (same_history l)) h.0, same_undecided p ls h.1)

-- ---- the chains, in words v whose records are those of w raised

raised_some : (at j : ℕ) → at ≡ j → 1 ≤ j → raised at ≡ j + 4
raised_some at j e h = rw (e, ne_eqb j 0 (omega arith))

raised_none : (at : ℕ) → at ≡ 0 → raised at ≡ 0
raised_none at e = rw (eq-eqb at 0 e)

-- record q of w is record q + 4 of v
record Raised (w v : List ℕ) (q : ℕ) : Type 0 where
  f0 : field v (q + 4) 0 ≡ field w q 0
  f1 : field v (q + 4) 1 ≡ raised (field w q 1)
  f2 : field v (q + 4) 2 ≡ raised (field w q 2)
  f3 : field v (q + 4) 3 ≡ field w q 3

module _ (start : ℕ) (base : 1 ≤ start) (w v : List ℕ) (hi : ℕ) (moves : (q : ℕ) → start ≤ q → q < hi → Raised w v q) where
  raise_inspections : (lot at bt : ℕ) (is : List Inspection) → start ≤ lot → bt ≡ raised at → Inspections start w hi lot is at → Inspections (start + 4) v (hi + 4) (lot + 4) (map raised_inspection is) bt
  raise_inspections lot at bt [] l e h = e ∙ raised_none at h
  raise_inspections lot at bt (i ∷ is) l e h =
      let x = h.0 in
      let m = moves i.at x.low x.high in (
        record {
          here = e ∙ raised_some at i.at x.here (omega (arith, x.low));
          low = omega (arith, x.low);
          high = omega (arith, x.high);
          class = m.f0 ∙ x.class;
          known = x.known;
          owner = m.f2 ∙ raised_some (field w i.at 2) lot x.owner (omega arith);
          serial = m.f3 ∙ x.serial ∙ omega (arith, length-map is raised_inspection);
        },
        raise_inspections lot (next w i.at) (next v (i.at + 4)) is l m.f1 h.1,
      )

  raise_free : (at bt : ℕ) (js : List ℕ) → bt ≡ raised at → Free start w hi js at → Free (start + 4) v (hi + 4) (map (λ j. j + 4) js) bt
  raise_free at bt [] e h = e ∙ raised_none at h
  raise_free at bt (j ∷ js) e h =
      let x = h.0 in
      let m = moves j x.low x.high in (
        record {
          here = e ∙ raised_some at j x.here (omega (arith, x.low));
          low = omega (arith, x.low);
          high = omega (arith, x.high);
          depth = m.f0 ∙ x.depth ∙ omega (arith, length-map js (λ (j : ℕ). j + 4));
          blank = m.f2 ∙ raised_none (field w j 2) x.blank;
          tag = m.f3 ∙ x.tag;
        },
        raise_free (next w j) (next v (j + 4)) js m.f1 h.1,
      )

  raise_lots : (above at bt : ℕ) (ls : List Lot) → bt ≡ raised at → Lots start w hi above ls at → Lots (start + 4) v (hi + 4) above (map raised_lot ls) bt
  raise_lots above at bt [] e h = e ∙ raised_none at h
  raise_lots above at bt (l ∷ ls) e h =
      let x = h.0 in
      let m = moves l.at x.low x.high in (
        record {
          here = e ∙ raised_some at l.at x.here (omega (arith, x.low));
          low = omega (arith, x.low);
          high = omega (arith, x.high);
          numbered = m.f0 ∙ x.numbered;
          rises = x.rises;
          tag = m.f3 ∙ x.tag;
        },
        raise_inspections l.at (newest w l.at) (newest v (l.at + 4)) l.inspections x.low m.f2 h.1,
        raise_lots l.number (next w l.at) (next v (l.at + 4)) ls m.f1 h.2,
      )

-- ---- the carried sheet

module _ (old shares w : List ℕ) (s : Contents) (h : Holds old_first_record old s) (old_long : old_least_size ≤ length old) (size : size_ok w ≡ true) (sixteen : length shares ≡ offices)
    (fit : shares_fit (λ o. get_or shares o 0) w ≡ true) (fits : word old next_unused + 4 ≤ records w) where
  abbrev new : List ℕ
  new = carry_words old shares w

  same_size : length new ≡ length w
  same_size = carried_length old shares w old_long sixteen h.begun fits

  new_long : least_size ≤ length new
  new_long = rw same_size (leb-true least_size (length w) (and_left (leb least_size (length w)) (leb (length w) greatest_size) size))

  header : (i : ℕ) → 3 ≤ i → i < shares_start → word new i ≡ word old i
  header = header_kept old shares w old_long sixteen h.begun fits

  moves : (q : ℕ) → old_first_record ≤ q → q < word old next_unused → Raised old new q
  moves q low high =
      let at : (f : ℕ) → f < 4 → _ = λ f k. carried_field old shares w old_long sixteen h.begun fits q f low high k in
      record { f0 = at 0 (omega arith); f1 = at 1 (omega arith); f2 = at 2 (omega arith); f3 = at 3 (omega arith) }

  same_totals : totals new ≡ totals old
  same_totals = rw (header accepted_lots (omega arith) (omega arith), header rejected_lots (omega arith) (omega arith), header good_units (omega arith) (omega arith), header marginal_units (omega arith) (omega arith), header bad_units (omega arith) (omega arith))

  closed_kept : closed_lots new ≡ closed_lots old
  closed_kept = ap (λ (t : Totals). t.accepted + t.rejected) same_totals

  units_kept : closed_units new ≡ closed_units old
  units_kept = ap (λ (t : Totals). t.good + t.marginal + t.bad) same_totals

  stages_fit : 5 * word old stage_count ≤ plan_room
  stages_fit = plan_fits old (omega arith) h.plan

  plan_kept : plan_words new ≡ plan_words old
  plan_kept = same_plan old new (omega arith) (omega (arith, new_long)) (λ i a b. header i a (omega arith)) stages_fit

  carried_holds : Holds first_record new (raised_contents s)
  unfolding carry_words
  carried_holds = record {
    plan = rw plan_kept h.plan;
    begun = omega (arith, h.begun);
    room = omega (arith, fits, same_size);
    unused_zero = same_unused old new (omega arith) (omega (arith, new_long)) (λ i a b. header i a (omega arith)) stages_fit h.unused_zero;
    lots = raise_lots old_first_record (omega arith) old new (word old next_unused) moves 0 (word old first_lot) (word new first_lot) s.lots refl h.lots;
    free = raise_free old_first_record (omega arith) old new (word old next_unused) moves (word old first_free) (word new first_free) s.free refl h.free;
    count = omega (arith, h.count, same_records s.lots, length-map s.free (λ (j : ℕ). j + 4));
    undecided_before = rw plan_kept (same_undecided (stages (plan_words old)) s.lots h.undecided_before);
    lots_bound = omega (arith, closed_kept, h.lots_bound);
    units_bound = omega (arith, closed_kept, units_kept, h.units_bound);
  }

  carried_start : Start (plan_words old) shares new (histories_of s) (totals old)
  carried_start = record {
    contents = raised_contents s;
    intact = record {
      size = rw same_size size;
      plan = plan_kept;
      holds = carried_holds;
      fit = fit_kept (λ o. get_or shares o 0) (share new) w new same_size (carried_share old shares w old_long sixteen h.begun fits) fit;
    };
    shares_are = carried_share old shares w old_long sixteen h.begun fits;
    histories = λ n. sym (same_finds n s.lots);
    totals_are = same_totals;
  }

  carries : Carried old shares w new
  carries = record {
    contents = s;
    intact = h;
    holds = carried_holds;
    held_as_before = λ o. same_held o s.lots;
    start = carried_start;
    room = fits;
    same_length = same_size;
    past = carried_past old shares w old_long sixteen h.begun fits;
    claim = from_any_start (plan_words old) shares new (histories_of s) (totals old) carried_start;
    replies = replies_by_history (plan_words old) shares new (histories_of s) (totals old) carried_start;
    fair = fair_from_there_on (plan_words old) shares new (histories_of s) (totals old) carried_start;
  }

pub where_granted : (old shares w : List ℕ) → length shares ≡ offices → NoneApplies (carry_rows old shares w) → Carried old shares w (carry_words old shares w)
unfolding carry_rows
where_granted old shares w sixteen no_row =
    let sizes = not-false (size_from old_least_size old && size_ok w) no_row.0 in
    let old_size = and_left (size_from old_least_size old) (size_ok w) sizes in
    let s = some_value (read_from old_first_record old) no_row.1.0 in
    carries old shares w s.0 ((reads old_first_record (omega arith) old s.0).0 s.1)
    (leb-true old_least_size (length old) (and_left (leb old_least_size (length old)) (leb (length old) greatest_size) old_size))
    (and_right (size_from old_least_size old) (size_ok w) sizes) sixteen
    (not-false (shares_fit (λ o. get_or shares o 0) w) no_row.1.1.0)
    (ltb-false (records w) (word old next_unused + 4) no_row.1.1.1.0)

pub carry_is_a_start : CarryIsAStart
unfolding carry
carry_is_a_start old shares w sixteen =
    by_rows w tt (carry_words old shares w) (λ (o : Outcome (Result (Unit {0}) Refusal)). o.reply ≡ Ok tt → Carried old shares w o.words)
    (λ n e. let z : ◌≡◌ {A = ℕ} 0 1 = cc in absurd (omega arith)) (carry_rows old shares w) (λ none e. where_granted old shares w sixteen none)
