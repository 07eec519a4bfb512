-- What the code's walks over a sheet find, by the definitions of Read.antt.
use Rattle.std.specs.Prelude.{ℕ, zero, suc, ◌+◌, ◌-◌, ◌*◌, ◌≤◌, Bool, true, cond, ◌&&◌, List, [], ◌∷◌, length, leb, ltb, eqb, Option, Some, None}
use Rattle.std.proofs.Math.Option as math
use Rattle.std.proofs.Math.Option.{none, some}
use Rattle.plan.specs.declared.counts.Counts.{Counts}
use Rattle.plan.specs.declared.stage.Stage.{Stage}
use Rattle.plan.specs.Plan.{end_below}
use Rattle.plan.specs.Counts.{no_units, units, add_units, both, counts}
use Rattle.plan.specs.Blanks.{one_blank, blanks}
use Rattle.plan.specs.Stopping.{earliest}
use Rattle.sheet.specs.declared.record.Record.{Record}
use Rattle.sheet.specs.declared.chain.Chain.{Chain}
use Rattle.sheet.specs.declared.chain.Part.{Part}
use Rattle.sheet.specs.declared.survey.Found.{Found}
use Rattle.plan.specs.Sample.{highest_class}
use Rattle.sheetmodel.specs.Layout.{greatest_size, shares_start, word, field, next, records, next_unused, free_tag, closed_lots, closed_units, most_closed}
use Rattle.sheetmodel.specs.Contents.{Inspection, Lot, Contents, classes, records_of, find}
use Rattle.sheetmodel.specs.Read.{in_use, read_inspections, undecided, all_undecided_before}
use Rattle.sheetmodel.specs.Calls.{last_below}

-- the words of a record
abbrev pub record_at : List ℕ → ℕ → Record
record_at w j = record { value = field w j 0; next = field w j 1; link = field w j 2; tag = field w j 3 }

-- the header before the shares, which both layouts have, at most 65,536 words, and no record in use beyond them
pub record Sized (w : List ℕ) : Type 0 where
  pub long : shares_start ≤ length w
  pub short : length w ≤ greatest_size
  pub room : word w next_unused ≤ records w

-- the totals are within their bounds
abbrev pub totals_ok : List ℕ → Bool
totals_ok w = leb (closed_lots w) most_closed && leb (closed_units w) (1000 * closed_lots w)

-- ---- the tests of one record; `first` is the first record after the header

abbrev pub is_inspection : ℕ → List ℕ → ℕ → ℕ → ℕ → Bool
is_inspection first w lot serial at =
    in_use first w at && leb (field w at 0) highest_class && eqb (field w at 2) lot && eqb (field w at 3) serial

abbrev pub is_free : ℕ → List ℕ → ℕ → ℕ → Bool
is_free first w depth at = in_use first w at && eqb (field w at 0) depth && eqb (field w at 2) 0 && eqb (field w at 3) free_tag

abbrev pub is_lot : ℕ → List ℕ → ℕ → ℕ → Bool
is_lot first w above at = in_use first w at && ltb above (field w at 0) && eqb (field w at 3) 0

-- the record `at`, if it passes such a test
abbrev pub record_if : Bool → List ℕ → ℕ → Option Record
record_if test w at = cond test (Some (record_at w at)) None

-- ---- a lot's inspections

-- n units of which c are: undecided, if n is the number to be tested
abbrev pub may_go_on : List Stage → ℕ → ℕ → Counts → Bool
may_go_on p test n c = cond (eqb n test) (undecided (earliest p c)) true

-- the next number to be tested below n: the last stage end, once n was tested
abbrev pub next_test : List Stage → ℕ → ℕ → ℕ
next_test p test n = cond (eqb n test) (end_below 0 p n) test

-- undecided after `test` units, and at the ends of stages below: enough for every beginning (plan's promise `by_ends`)
abbrev pub tested : List Stage → ℕ → List Inspection → Bool
tested p test [] = true
tested p test (i ∷ is) = may_go_on p test (length is) (counts (classes is)) && tested p (next_test p test (length is)) is

-- the units and the blanks of these inspections
abbrev pub as_chain : List Inspection → Chain
as_chain is = record { counts = counts (classes is); blanks = blanks (classes is) }

-- the chain that was read, if the test holds of it
abbrev pub chain_of : (List Inspection → Bool) → math.Option (List Inspection) → Option Chain
chain_of test none = None
chain_of test (some is) = cond (test is) (Some (as_chain is)) None

-- n units by three sums over their classes: of the classes x, of x / 2 and of x / 3. A class adds to them
-- good 0, 0, 0, marginal 1, 0, 0, bad 2, 1, 0 and blank 3, 1, 1
abbrev pub by_sums : ℕ → ℕ → ℕ → ℕ → Counts
by_sums n sum halves thirds = record {
  good = n + halves + thirds - sum;
  marginal = sum - 2 * halves;
  bad = halves - thirds;
}

-- such sums over n classes up to 3: no count is below 0
pub record SumsFit (n sum halves thirds : ℕ) : Type 0 where
  pub marginal : 2 * halves ≤ sum
  pub bad : thirds ≤ halves
  pub good : sum ≤ n + halves + thirds
  pub most : sum ≤ 3 * n

-- no inspections
abbrev pub no_chain : Chain
no_chain = record { counts = no_units; blanks = 0 }

-- with one inspection of class x more
abbrev pub with_class : ℕ → Chain → Chain
with_class x v = record { counts = add_units x 1 v.counts; blanks = v.blanks + one_blank x }

-- older inspections and newer ones
abbrev pub with_chain : Chain → Chain → Chain
with_chain v u = record { counts = both v.counts u.counts; blanks = v.blanks + u.blanks }

-- a chain that is whole only if it is undecided
abbrev pub if_undecided : List Stage → Option Chain → Option Chain
if_undecided p None = None
if_undecided p (Some v) = cond (undecided (earliest p v.counts)) (Some v) None

-- a chain with the newer inspections u
abbrev pub with_newer : Chain → Option Chain → Option Chain
with_newer u None = None
with_newer u (Some v) = Some (with_chain v u)

-- newer inspections, and the older ones after them, of which there are `test`: these are tested, and so are those at the stage ends below
abbrev pub with_older : List Stage → ℕ → List ℕ → ℕ → ℕ → Option Part → Option Chain
with_older p first w lot test None = None
with_older p first w lot test (Some r) =
    with_newer r.chain (if_undecided p (chain_of (tested p (end_below 0 p test)) (read_inspections first w lot test r.next)))

-- n inspections from the record `at` on, newer than the `stop` oldest ones, with those in v
unfoldable pub newer_part : ℕ → List ℕ → ℕ → ℕ → ℕ → ℕ → Chain → Option Part
newer_part first w lot stop zero at v = Some (record { chain = v; next = at })
newer_part first w lot stop (suc n) at v =
    cond (is_inspection first w lot (stop + suc n) at) (newer_part first w lot stop n (next w at) (with_class (field w at 0) v)) None

-- ---- the free records: as many as were read

abbrev pub free_of : math.Option (List ℕ) → Option ℕ
free_of none = None
free_of (some js) = Some (length js)

-- ---- the lots

-- what is found so far, with the lot in the record `at`, of this number and chain, more; n is the number looked for
abbrev pub with_lot_found : ℕ → Found → ℕ → ℕ → Chain → Found
with_lot_found n f at number v = record {
  used = f.used + (1 + units v.counts);
  before = cond (ltb number n) at f.before;
  at = cond (eqb n number) at f.at;
  chain = cond (eqb n number) v f.chain;
}

abbrev pub found_from : ℕ → Found → List Lot → Found
found_from n f [] = f
found_from n f (l ∷ ls) = found_from n (with_lot_found n f l.at l.number (as_chain l.inspections)) ls

abbrev pub nothing_found : Found
nothing_found = record { used = 0; before = 0; at = 0; chain = no_chain }

abbrev pub lots_survey : List Stage → ℕ → Found → math.Option (List Lot) → Option Found
lots_survey p n f none = None
lots_survey p n f (some ls) = cond (all_undecided_before p ls) (Some (found_from n f ls)) None

-- ---- the sheet

-- the lot of a number: its record, the record before it, and its chain; record 0 and no inspections where it is not on the sheet
abbrev pub found : ℕ → math.Option Lot → ℕ → ℕ → Found
found n none before used = record { used = used; before = before; at = 0; chain = no_chain }
found n (some l) before used = record { used = used; before = before; at = l.at; chain = as_chain l.inspections }

abbrev pub survey_of : ℕ → math.Option Contents → Option Found
survey_of n none = None
survey_of n (some s) = Some (found n (find n s.lots) (last_below n 0 s.lots) (records_of s.lots))
