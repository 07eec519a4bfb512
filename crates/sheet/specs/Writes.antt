-- What the functions that write need of the words. Of a sheet that is not corrupt the calls know it (proofs/Requires.antt).
use Rattle.std.specs.Prelude.{ℕ, ◌+◌, ◌*◌, ◌≤◌, ◌<◌, ◌≡◌, true, List, [], length}
use Rattle.std.proofs.Math.Option.{Option, get_or}
use Rattle.plan.specs.declared.counts.Counts.{Counts}
use Rattle.plan.specs.declared.stage.Answer.{Answer}
use Rattle.plan.specs.Counts.{counts, units}
use Rattle.sheetmodel.specs.Layout.{largest, least_size, greatest_size, word, field, newest, first_free, first_record, good_units, marginal_units, bad_units}
use Rattle.sheetmodel.specs.Contents.{Inspection, Lot, history}
use Rattle.sheetmodel.specs.Read.{serial_at, depth, read_inspections}
use Rattle.sheet.specs.Survey.{Sized}
use Rattle.sheetmodel.specs.Rows.{is_some}
use Rattle.sheetmodel.specs.Calls.{new_record, lots_total, lot_answer}

-- record j lies in the words
abbrev pub InWords : List ℕ → ℕ → Type 0
InWords w j = 4 * j + 3 < length w

-- a record can be taken
pub record Room (w : List ℕ) : Type 0 where
  pub long : least_size ≤ length w
  pub short : length w ≤ greatest_size
  pub inside : InWords w (new_record w)

-- n records can be freed, one after the other
pub record Freeing (w : List ℕ) (n : ℕ) : Type 0 where
  pub sized : Sized w
  pub front : InWords w (word w first_free)
  pub deep : depth w + n ≤ largest

-- the chain of the inspections of the lot at `lot`, from `at` on: as the reader reads it
abbrev pub read_chain : List ℕ → ℕ → ℕ → ℕ → Option (List Inspection)
read_chain w lot count at = read_inspections first_record w lot count at

abbrev pub chain : List ℕ → ℕ → ℕ → ℕ → List Inspection
chain w lot count at = get_or (read_chain w lot count at) []

-- the lot in record `at`
abbrev pub lot_at : List ℕ → ℕ → Lot
lot_at w at = record { at = at; number = field w at 0; inspections = chain w at (serial_at w (newest w at)) (newest w at) }

-- a lot's newest inspection can be taken away
pub record Striking (w : List ℕ) (at : ℕ) : Type 0 where
  pub freeing : Freeing w 1
  pub after_header : first_record ≤ at
  pub inside : InWords w at
  pub some_inspection : InWords w (newest w at)

-- the totals with one lot more are words
pub record TotalsFit (w : List ℕ) (answer : Answer) (c : Counts) : Type 0 where
  pub long : least_size ≤ length w
  pub lots : word w (lots_total answer) + 1 ≤ largest
  pub good : word w good_units + c.good ≤ largest
  pub marginal : word w marginal_units + c.marginal ≤ largest
  pub bad : word w bad_units + c.bad ≤ largest

-- the lot in record `at`, with this answer and these counts, can be closed; `before` is the header or a lot
pub record Closing (w : List ℕ) (at before : ℕ) (answer : Answer) (c : Counts) : Type 0 where
  pub freeing : Freeing w (length (lot_at w at).inspections + 1)
  pub fit : TotalsFit w answer c
  pub after_header : first_record ≤ at
  pub inside : InWords w at
  pub front_after_header : 1 ≤ word w first_free → first_record ≤ word w first_free
  pub before_inside : InWords w before
  pub before_lot : 1 ≤ before → field w before 3 ≡ 0
  pub whole : is_some (read_chain w at (serial_at w (newest w at)) (newest w at)) ≡ true
  pub answered : answer ≡ lot_answer w (lot_at w at)
  pub counted : c ≡ counts (history (lot_at w at))
  pub few : units c ≤ 1000
