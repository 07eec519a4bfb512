-- Fairness between offices: the spare records stay at least what all offices lack. Assumes nothing.
use Prim.Native.Nat.{ℕ, ◌-◌, ◌≤◌, ◌<◌}
use mathlib.Core.Path.{◌≡◌, refl, sym, ap, ◌∙◌}
use mathlib.Core.Logic.{◌≢◌}
use mathlib.Core.Bool.{cond, true, not, ◌||◌}
use mathlib.Core.Option.{none, some, map, get_or}
use mathlib.Core.List.{List, [], ◌∷◌, ◌++◌}
use native.Mathlib.Omega.{arith}
use lib.Dec.{ltb}
use borrow.Author.Tests.{eq-eqb, lt-ltb, leb-true}
use Rattle.sheetmodel.specs.declared.reply.Totals.{Totals}
use Rattle.sheetmodel.specs.Layout.{records, first_record, offices, share}
use Rattle.sheetmodel.specs.Contents.{Lot, history, find, records_of}
use Rattle.sheetmodel.specs.Offices.{office, added_up, shares_fit, held, lacking, all_lacking, others_lacking, spare, may_take}
use Rattle.plan.specs.Reply.{refused}
use Rattle.sheetmodel.specs.Calls.{fresh}
use Rattle.sheetmodel.specs.History.{Call, call, Histories}
use Rattle.sheetmodel.specs.Start.{Start, after_start}
use Rattle.sheetmodel.specs.Replies.{lot_of, own_rows, other_rows, room_for, values}
use Rattle.sheetmodel.specs.Demand3.{no_lots, no_totals}
use Rattle.sheetmodel.specs.Fairness.{EnoughSpare, Fair, FairFromThereOn, FairOnAFreshSheet}
use Rattle.sheetmodel.proofs.Read.{reads_a_sheet}
use Rattle.sheetmodel.proofs.Shares.{sum_same, sum_part, an_office, spare_is}
use Rattle.sheetmodel.proofs.Invariant.{Terms, Inv, read_is}
use Rattle.sheetmodel.proofs.FreshSheet.{fresh_is_a_start}
use Rattle.sheetmodel.proofs.Demand3.{run_inv, reached}
use Rattle.sheetmodel.proofs.Replies.{by_history}
use Rattle.sheetmodel.proofs.Corollaries.{applies, refused_applies, only_full, only_held_back, full_filled}

-- where enough is spare, the offices are short of nothing
abbrev none_short : Terms → Terms
none_short terms = record { shares = terms.shares; so_far = terms.so_far; short = 0 }

module _ {p w : List ℕ} {terms : Terms} {H : Histories} (inv : Inv first_record p terms w H) where
  enough_is : EnoughSpare w → all_lacking w inv.contents.lots ≤ spare w inv.contents
  enough_is e = rw (read_is inv) at e

  enough_from_here : EnoughSpare w → Inv first_record p (none_short terms) w H
  enough_from_here e = record {
    contents = inv.contents;
    holds = inv.holds;
    fit = inv.fit;
    long = inv.long;
    short = inv.short;
    plan_is = inv.plan_is;
    agrees = inv.agrees;
    sums = inv.sums;
    shares_are = inv.shares_are;
    fair = let h = enough_is e in omega arith;
  }

module _ {p w : List ℕ} {terms : Terms} {H : Histories} (inv : Inv first_record p terms w H) (enough : terms.short ≡ 0) where
  -- a number is no call's reply where no row with it applies
  refuses_not : (k : ℕ) (c : Call) → (applies k (own_rows p (H.standing (lot_of c)) c ++ other_rows (room_for (lot_of c) w) c) ≡ true → ⊥) → (call c w).reply ≢ refused k
  refuses_not k c never e =
      let x = H.standing (lot_of c) in
      never (refused_applies k (own_rows p x c ++ other_rows (room_for (lot_of c) w) c) (values p (get_or x []) c) (sym ((by_history inv).replies c) ∙ e))

  pub fair_now : Fair w
  unfolding may_take
  fair_now =
      let s = inv.contents in
      let r = read_is inv in
      record {
        enough = rw r (let h = inv.fair in omega arith);
        never_full = λ c b. refuses_not 11 c (λ a.
            let o = office (lot_of c) in
            let below : held s.lots o < share w o = rw r at b in
            omega (
              arith,
              inv.fair,
              spare_is inv.holds,
              full_filled w s inv.holds (only_full p (H.standing (lot_of c)) (room_for (lot_of c) w) c a),
              sum_part offices o (lacking w s.lots) (an_office (lot_of c)),
            ));
        never_held_back = λ c b. refuses_not 19 c (λ a.
            let o = office (lot_of c) in
            let below : held s.lots o < share w o = rw r at b in
            let back = rw r at (only_held_back p (H.standing (lot_of c)) (room_for (lot_of c) w) c a) in
            let z = lt-ltb (held s.lots o) (share w o) below in
            let y : not (true || ltb (others_lacking w s.lots o) (spare w s)) ≡ true = rw z at back in
            let x : ◌≡◌ {A = ℕ} 0 1 = cc in omega arith);
      }

pub fair_from_there_on : FairFromThereOn
fair_from_there_on p shares w standing so_far s cs ds e = fair_now (run_inv ds (after_start w standing cs) (enough_from_here (reached s cs) e)) refl

-- a sheet without lots has enough: its shares add to no more than its records
no_lot : (ls : List Lot) → ((n : ℕ) → none ≡ map history (find n ls)) → ls ≡ []
no_lot [] h = refl
no_lot (l ∷ ls) h =
    let e : none ≡ map history (cond true (some l) (find l.number ls)) = rw (eq-eqb l.number l.number refl) at (h l.number) in
    let z : ◌≡◌ {A = ℕ} 0 1 = cc in absurd (omega arith)

none_lots : {p shares w : List ℕ} {so_far : Totals} → Start p shares w no_lots so_far → EnoughSpare w
unfolding shares_fit
none_lots {p} {shares} {w} s =
    let i = s.intact in
    let none = no_lot s.contents.lots s.histories in
    rw ((reads_a_sheet w s.contents).1 (i.fit, i.holds))
    (omega (
      arith,
      spare_is i.holds,
      ap records_of none,
      leb-true (added_up offices (share w)) (records w - first_record) i.fit,
      sum_same offices (lacking w s.contents.lots) (share w) (λ o b. omega (arith, ap (λ (ls : List Lot). held ls o) none)),
    ))

pub fair_on_a_fresh_sheet : FairOnAFreshSheet
fair_on_a_fresh_sheet p shares w sixteen ok cs =
    let s = fresh_is_a_start p shares w sixteen ok in
    fair_from_there_on p shares (fresh p shares w).words no_lots no_totals s [] cs (none_lots s)
