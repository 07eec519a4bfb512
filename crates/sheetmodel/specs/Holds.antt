-- These words hold these contents: document 01's paragraph "Torn means", clause by clause. `start` is the first record after
-- the header (15; 11 of an old sheet) and `hi` the next never used, so an index on a chain is from start to hi - 1. The clause on shares (document 02, change
-- 7) stands apart, in Intact (Start.antt). Apart from the reader (Read.antt), which is proved to find exactly this
-- (proofs/Read.antt).
use Rattle.std.specs.Prelude.{ℕ, suc, ◌+◌, ◌*◌, ◌≤◌, ◌<◌, ◌≡◌, true, List, [], ◌∷◌, length, take}
use Rattle.plan.specs.declared.stage.Answer.TheVariants.{GoOn}
use Rattle.plan.specs.declared.stage.Stage.{Stage}
use Rattle.plan.specs.Plan.{stages, admitted}
use Rattle.plan.specs.Counts.{counts}
use Rattle.plan.specs.Stopping.{earliest}
use Rattle.sheetmodel.specs.Layout.{greatest_size, word, field, next, newest, records, next_unused, first_lot, first_free, stage_count, plan_start, plan_room, plan_words, closed_lots, closed_units, free_tag, most_closed}
use Rattle.plan.specs.Sample.{highest_class}
use Rattle.sheetmodel.specs.Contents.{Inspection, Lot, Contents, history, records_of}

-- the index `at` is that of the inspection i of the lot at `lot`, with the serial n
pub record InspectionAt (start : ℕ) (w : List ℕ) (hi lot n : ℕ) (i : Inspection) (at : ℕ) : Type 0 where
  pub here : at ≡ i.at
  pub low : start ≤ i.at
  pub high : i.at < hi
  pub class : field w i.at 0 ≡ i.class
  pub known : i.class ≤ highest_class
  pub owner : field w i.at 2 ≡ lot
  pub serial : field w i.at 3 ≡ n

-- the chain from `at` on. The oldest serial is 1, and serials fall by one
abbrev pub Inspections : ℕ → List ℕ → ℕ → ℕ → List Inspection → ℕ → Type 0
Inspections start w hi lot [] at = at ≡ 0
Inspections start w hi lot (i ∷ is) at = InspectionAt start w hi lot (suc (length is)) i at × Inspections start w hi lot is (next w i.at)

-- a lot whose number is above `above`
pub record LotAt (start : ℕ) (w : List ℕ) (hi above : ℕ) (l : Lot) (at : ℕ) : Type 0 where
  pub here : at ≡ l.at
  pub low : start ≤ l.at
  pub high : l.at < hi
  pub numbered : field w l.at 0 ≡ l.number
  pub rises : above < l.number
  pub tag : field w l.at 3 ≡ 0

-- lots ascend strictly by number
abbrev pub Lots : ℕ → List ℕ → ℕ → ℕ → List Lot → ℕ → Type 0
Lots start w hi above [] at = at ≡ 0
Lots start w hi above (l ∷ ls) at =
    LotAt start w hi above l at × Inspections start w hi l.at l.inspections (newest w l.at) × Lots start w hi l.number ls (next w l.at)

-- a free record of depth n
pub record FreeAt (start : ℕ) (w : List ℕ) (hi n j at : ℕ) : Type 0 where
  pub here : at ≡ j
  pub low : start ≤ j
  pub high : j < hi
  pub depth : field w j 0 ≡ n
  pub blank : field w j 2 ≡ 0
  pub tag : field w j 3 ≡ free_tag

-- the last depth is 1, and depths fall by one
abbrev pub Free : ℕ → List ℕ → ℕ → List ℕ → ℕ → Type 0
Free start w hi [] at = at ≡ 0
Free start w hi (j ∷ js) at = FreeAt start w hi (suc (length js)) j at × Free start w hi js (next w j)

-- no unit after the earliest stop
abbrev pub UndecidedBefore : List Stage → List ℕ → Type 0
UndecidedBefore p h = (y : ℕ) → y < length h → earliest p (counts (take y h)) ≡ GoOn

abbrev pub AllUndecidedBefore : List Stage → List Lot → Type 0
AllUndecidedBefore p [] = Unit {0}
AllUndecidedBefore p (l ∷ ls) = UndecidedBefore p (history l) × AllUndecidedBefore p ls

-- each comment is the clause of 01 that the fields below it deny
pub record Holds (start : ℕ) (w : List ℕ) (s : Contents) : Type 0 where
  -- plan not admitted
  pub plan : admitted (plan_words w) ≡ true
  -- word 0 outside 15 to the record count
  pub begun : start ≤ word w next_unused
  pub room : word w next_unused ≤ records w
  -- an index outside 15 to word 0 less 1, a rule above broken
  pub unused_zero : (i : ℕ) → 5 * word w stage_count ≤ i → i < plan_room → word w (plan_start + i) ≡ 0
  pub lots : Lots start w (word w next_unused) 0 s.lots (word w first_lot)
  pub free : Free start w (word w next_unused) s.free (word w first_free)
  -- the records on chains not word 0 − 15 in number
  pub count : start + (records_of s.lots + length s.free) ≡ word w next_unused
  -- a lot with an inspection after its earliest stop
  pub undecided_before : AllUndecidedBefore (stages (plan_words w)) s.lots
  -- closed lots above 4,000,000, or closed units above 1,000 × closed lots
  pub lots_bound : closed_lots w ≤ most_closed
  pub units_bound : closed_units w ≤ 1000 * closed_lots w

-- ---- the links of every record in use, on whichever chain, are below the next record never used (proofs/OnChains.antt)

pub record LinksBelow (start : ℕ) (w : List ℕ) : Type 0 where
  pub lot : word w first_lot < word w next_unused
  pub free : word w first_free < word w next_unused
  -- words 1 and 2 of a record, whatever it is
  pub each : (j : ℕ) → start ≤ j → j < word w next_unused → (field w j 1 < word w next_unused) × (field w j 2 < word w next_unused)

abbrev pub LinksLaw : Type 0
LinksLaw = (start : ℕ) (w : List ℕ) (s : Contents) → 1 ≤ start → length w ≤ greatest_size → Holds start w s → LinksBelow start w
