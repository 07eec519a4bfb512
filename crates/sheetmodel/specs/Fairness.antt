-- Fairness between offices. Document 02, change 7: after any list of calls on a fresh sheet, an office that holds fewer records than
-- its share gets neither 11 nor 19, whatever others did. Statements alone; proofs/Fairness.antt proves them.
use Rattle.std.specs.Prelude.{ℕ, ◌≤◌, ◌<◌, ◌≡◌, ◌≢◌, List, length}
use Rattle.std.proofs.Math.Option.{Option}
use Rattle.sheetmodel.specs.declared.reply.Totals.{Totals}
use Rattle.sheetmodel.specs.Layout.{offices, share}
use Rattle.sheetmodel.specs.Offices.{office, held, all_lacking, spare}
use Rattle.std.specs.declared.result.Result.TheVariants.{Ok}
use Rattle.plan.specs.Reply.{refused}
use Rattle.sheetmodel.specs.Calls.{contents, fresh}
use Rattle.sheetmodel.specs.History.{Call, call, run}
use Rattle.sheetmodel.specs.Start.{Start, after_start}
use Rattle.sheetmodel.specs.Replies.{lot_of}
use Rattle.sheetmodel.specs.Demand3.{after}

-- the records free and unused are at least what all offices lack to reach their shares, added up
abbrev pub EnoughSpare : List ℕ → Type 0
EnoughSpare w = all_lacking w (contents w).lots ≤ spare w (contents w)

-- the office of the lot n holds fewer records than its share
abbrev pub BelowShare : List ℕ → ℕ → Type 0
BelowShare w n = held (contents w).lots (office n) < share w (office n)

pub record Fair (w : List ℕ) : Type 0 where
  pub enough : EnoughSpare w
  pub never_full : (c : Call) → BelowShare w (lot_of c) → (call c w).reply ≢ refused 11
  pub never_held_back : (c : Call) → BelowShare w (lot_of c) → (call c w).reply ≢ refused 19

-- once enough is spare after a list cs, from any start, the offices are treated fairly after every list that follows
abbrev pub FairFromThereOn : Type 0
FairFromThereOn = (p shares w : List ℕ) (standing : ℕ → Option (List ℕ)) (so_far : Totals) → Start p shares w standing so_far →
    (cs ds : List Call) → EnoughSpare (after_start w standing cs).words → Fair (run ds (after_start w standing cs)).words

-- on a fresh sheet that is from the first call on
abbrev pub FairOnAFreshSheet : Type 0
FairOnAFreshSheet = (p shares w : List ℕ) → length shares ≡ offices → (fresh p shares w).reply ≡ Ok tt → (cs : List Call) →
    Fair (after p shares w cs).words
