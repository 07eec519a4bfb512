-- What a granted carry leaves. Document 02, change 8. Statements alone; proofs/Carried.antt proves them.
use Rattle.std.specs.Prelude.{ℕ, ◌+◌, ◌*◌, ◌≤◌, ◌≡◌, List, map, length}
use Rattle.std.proofs.Math.Option
use Rattle.std.proofs.Math.Option.{Option}
use Rattle.std.specs.declared.result.Result.TheVariants.{Ok}
use Rattle.sheetmodel.specs.Layout.{word, records, plan_words, totals, first_record, offices, old_first_record}
use Rattle.sheetmodel.specs.Contents.{Inspection, Lot, Contents, history, find}
use Rattle.sheetmodel.specs.Offices.{held}
use Rattle.sheetmodel.specs.Holds.{Holds}
use Rattle.sheetmodel.specs.History.{Call, run}
use Rattle.sheetmodel.specs.Start.{Start, after_start}
use Rattle.sheetmodel.specs.Demand3.{ClaimFrom}
use Rattle.sheetmodel.specs.Replies.{ByHistory}
use Rattle.sheetmodel.specs.Fairness.{EnoughSpare, Fair}
use Rattle.sheetmodel.specs.Carry.{carried_next, carry}

-- ---- the same lots, histories and free records, each four records later

abbrev pub raised_inspection : Inspection → Inspection
raised_inspection i = record { at = i.at + 4; class = i.class }

abbrev pub raised_lot : Lot → Lot
raised_lot l = record { at = l.at + 4; number = l.number; inspections = map raised_inspection l.inspections }

abbrev pub raised_contents : Contents → Contents
raised_contents s = record { lots = map raised_lot s.lots; free = map (λ j. j + 4) s.free }

-- the history of each lot of these contents
abbrev pub histories_of : Contents → ℕ → Option (List ℕ)
histories_of s n = Option.map history (find n s.lots)

-- v are the words w after the old sheet was carried into them
pub record Carried (old shares w v : List ℕ) : Type 0 where
  -- the old sheet is intact in its layout
  pub contents : Contents
  pub intact : Holds old_first_record old contents
  -- the second holds its lots and its free chain
  pub holds : Holds first_record v (raised_contents contents)
  -- each office has the records that it had, also above its share
  pub held_as_before : (o : ℕ) → held (raised_contents contents).lots o ≡ held contents.lots o
  -- it is a start with the old plan, the histories of the old lots and the old totals
  pub start : Start (plan_words old) shares v (histories_of contents) (totals old)
  -- it has room, and the words past the carried records keep their values
  pub room : carried_next old ≤ records w
  pub same_length : length v ≡ length w
  pub past : (i : ℕ) → 4 * carried_next old ≤ i → word v i ≡ word w i
  -- so demand 3 holds for lists on the second sheet
  pub claim : (cs : List Call) → ClaimFrom (plan_words old) shares (totals old) (after_start v (histories_of contents) cs)
  -- and each call's reply is that by the plan and the histories
  pub replies : (cs : List Call) → ByHistory (plan_words old) (after_start v (histories_of contents) cs).words
      (after_start v (histories_of contents) cs).histories.standing
  -- and the promise on shares, from the first point at which enough is spare
  pub fair : (cs ds : List Call) → EnoughSpare (after_start v (histories_of contents) cs).words →
      Fair (run ds (after_start v (histories_of contents) cs)).words

-- of every granted carry
abbrev pub CarryIsAStart : Type 0
CarryIsAStart = (old shares w : List ℕ) → length shares ≡ offices → (carry old shares w).reply ≡ Ok tt →
    Carried old shares w (carry old shares w).words
