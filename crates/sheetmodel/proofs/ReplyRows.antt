-- The reply of a call is that of its rows, on any words; on an intact sheet it is a function of the plan, the lot's history, and
-- what other lots leave: whether records or totals are full, and whether the shares deny a record. Assumes nothing.
use Prim.Native.Nat.{ℕ}
use mathlib.Core.Path.{◌≡◌, refl, ◌∙◌}
use mathlib.Core.Bool.{false, not}
use mathlib.Core.Option.{Option, none, some, map, get_or}
use mathlib.Core.List.{List, []}
use native.Mathlib.Omega.{arith}
use Rattle.plan.specs.Reply.{refused}
use Rattle.plan.specs.declared.refusal.Refusal.{Refusal}
use Rattle.plan.specs.declared.refusal.Refusal.TheVariants as refusal
use Rattle.plan.specs.Refusal.{Row, number, first_refusal}
use Rattle.plan.proofs.Refusals.{first_refusals}
use Rattle.plan.proofs.Promise.{counting}
use Rattle.std.specs.declared.result.Result.TheVariants.{Err}
use Rattle.sheetmodel.specs.Layout.{size_ok, first_record}
use Rattle.sheetmodel.specs.Contents.{Lot, Contents, history, find}
use Rattle.sheetmodel.specs.Read.{read}
use Rattle.sheetmodel.specs.Rows.{row, classes_in}
use Rattle.sheetmodel.specs.Reply.{done_reply, look_reply}
use Rattle.sheetmodel.specs.Calls.{corrupt, contents, empty_lot, standing, sheet_rows, open_rows, open_lot, inspect_rows, inspect, strike_rows, strike, close_rows, close, look_rows, look}
use Rattle.sheetmodel.specs.Estimate.{estimate_rows, estimate}
use Rattle.sheetmodel.specs.History.{Call, opening, inspecting, striking, closing, looking, call, Histories}
use Rattle.sheetmodel.specs.Start.{Intact}
use Rattle.sheetmodel.specs.Replies.{lot_of, room_for, reply_by, estimate_by, reply_on, estimate_on, ByRows}
use Rattle.sheetmodel.proofs.Read.{reads_a_sheet}
use Rattle.sheetmodel.proofs.Outcomes.{reply_by_rows}
use Rattle.sheetmodel.proofs.Invariant.{Terms, Inv, size_is}

-- the history of the lot that a number finds
pub its_history : (o : Option Lot) → history (get_or o empty_lot) ≡ get_or (map history o) []
its_history none = refl
its_history (some l) = refl

module _ (w : List ℕ) where
  replies : (c : Call) → (call c w).reply ≡ reply_on w c
  unfolding open_lot open_rows inspect inspect_rows strike strike_rows close close_rows look look_rows
  replies (opening n) = reply_by_rows done_reply w tt _ (open_rows n w)
  replies (inspecting n c) = reply_by_rows done_reply w tt _ (inspect_rows n c w)
  replies (striking n) = reply_by_rows done_reply w tt _ (strike_rows n w)
  replies (closing n) = reply_by_rows done_reply w tt _ (close_rows n w)
  replies (looking n) =
      reply_by_rows look_reply w _ w (look_rows n w) ∙
      rw (its_history (find n (contents w).lots), counting.length_of (classes_in (standing n w)))

  estimates : (n : ℕ) → (estimate n w).reply ≡ estimate_on w n
  unfolding estimate estimate_rows
  estimates n =
      reply_by_rows (λ r. r) w _ w (estimate_rows n w) ∙ rw (its_history (find n (contents w).lots))

  pub by_rows : ByRows w
  by_rows = record { replies = replies; estimates = estimates }

module _ {p w : List ℕ} {s : Contents} (i : Intact p w s) where
  read_intact : read w ≡ some s
  read_intact = (reads_a_sheet w s).1 (i.fit, i.holds)

  -- 1 and 3 do not apply
  behind : {A : Type 0} (refuse : Refusal → A) (others : List Row) (g : A) → first_refusal refuse (sheet_rows w others) g ≡ first_refusal refuse others g
  behind {A} refuse others g =
      let size : not (size_ok w) ≡ false = rw i.size in
      let whole : corrupt w ≡ false = rw read_intact in
      first_refusals.passes A refuse (row refusal.Size (not (size_ok w))) _ g size ∙ first_refusals.passes A refuse (row refusal.Corrupt (corrupt w)) others g whole

  pub reply_is : (c : Call) → (call c w).reply ≡ reply_by p (map history (find (lot_of c) s.lots)) (room_for (lot_of c) w) c
  reply_is c = (by_rows w).replies c ∙ behind (λ r. refused (number r)) _ _ ∙ rw (read_intact, i.plan)

  pub estimate_is : (n : ℕ) → (estimate n w).reply ≡ estimate_by p (map history (find n s.lots))
  estimate_is n = (by_rows w).estimates n ∙ behind Err _ _ ∙ rw (read_intact, i.plan)

pub intact_of : {p w : List ℕ} {terms : Terms} {H : Histories} (inv : Inv first_record p terms w H) → Intact p w inv.contents
intact_of inv = record { size = size_is (omega arith) inv; plan = inv.plan_is; holds = inv.holds; fit = inv.fit }
