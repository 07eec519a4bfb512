-- The words of a sheet. Document 01, "Sheet": record j is words 4j to 4j + 3, and words 0 to 59 are the header (01: head); of
-- these 44 to 59 are the shares of document 02, change 7.
use Rattle.std.specs.Prelude.{ℕ, ◌+◌, ◌*◌, ◌/◌, Bool, ◌&&◌, List, length, get_or, set, take, drop, leb}
use Rattle.sheetmodel.specs.declared.reply.Totals.{Totals}

abbrev pub least_size : ℕ
least_size = 64

abbrev pub greatest_size : ℕ
greatest_size = 65536

-- from the least size of a layout to the greatest of all
abbrev pub size_from : ℕ → List ℕ → Bool
size_from least w = leb least (length w) && leb (length w) greatest_size

abbrev pub size_ok : List ℕ → Bool
size_ok w = size_from least_size w

-- the largest number that a word has
abbrev pub largest : ℕ
largest = 4294967295

abbrev pub word : List ℕ → ℕ → ℕ
word w i = get_or w i 0

-- ---- the header, word by word

-- the next record never used
abbrev pub next_unused : ℕ
next_unused = 0

abbrev pub first_lot : ℕ
first_lot = 1

abbrev pub first_free : ℕ
first_free = 2

-- k
abbrev pub stage_count : ℕ
stage_count = 3

-- the stages, five words each; room for seven
abbrev pub plan_start : ℕ
plan_start = 4

abbrev pub plan_room : ℕ
plan_room = 35

abbrev pub accepted_lots : ℕ
accepted_lots = 39

abbrev pub rejected_lots : ℕ
rejected_lots = 40

abbrev pub good_units : ℕ
good_units = 41

abbrev pub marginal_units : ℕ
marginal_units = 42

abbrev pub bad_units : ℕ
bad_units = 43

-- each office's share of the records; an office is 0 to 15
abbrev pub shares_start : ℕ
shares_start = 44

abbrev pub offices : ℕ
offices = 16

abbrev pub share : List ℕ → ℕ → ℕ
share w o = word w (shares_start + o)

abbrev pub header_size : ℕ
header_size = 60

-- the first record after the header
abbrev pub first_record : ℕ
first_record = 15

-- the plan, and the words of unused stages after it
abbrev pub plan_words : List ℕ → List ℕ
plan_words w = take (5 * word w stage_count) (drop plan_start w)

abbrev pub unused_stages : List ℕ → List ℕ
unused_stages w = drop (5 * word w stage_count) (take plan_room (drop plan_start w))

abbrev pub totals : List ℕ → Totals
totals w = record {
  accepted = word w accepted_lots;
  rejected = word w rejected_lots;
  good = word w good_units;
  marginal = word w marginal_units;
  bad = word w bad_units;
}

abbrev pub closed_lots : List ℕ → ℕ
closed_lots w = (totals w).accepted + (totals w).rejected

abbrev pub closed_units : List ℕ → ℕ
closed_units w = (totals w).good + (totals w).marginal + (totals w).bad

-- ---- records. Their words are
--   lot:         number, next lot, newest inspection, 0
--   inspection:  class, next older, its lot's record, serial
--   free:        depth, next free, 0, free_tag
-- The header is record 0: its word 1, the first lot, is the next lot of record 0.

-- whole records
abbrev pub records : List ℕ → ℕ
records w = length w / 4

abbrev pub field : List ℕ → ℕ → ℕ → ℕ
field w j f = word w (4 * j + f)

abbrev pub next : List ℕ → ℕ → ℕ
next w j = field w j 1

abbrev pub newest : List ℕ → ℕ → ℕ
newest w lot = field w lot 2

abbrev pub put : List ℕ → ℕ → ℕ → ℕ → List ℕ
put w j f v = set w (4 * j + f) v

unfoldable pub put_record : List ℕ → ℕ → ℕ → ℕ → ℕ → ℕ → List ℕ
put_record w j a b c d = put (put (put (put w j 0 a) j 1 b) j 2 c) j 3 d

abbrev pub free_tag : ℕ
free_tag = largest

abbrev pub most_closed : ℕ
most_closed = 4000000

-- ---- an old sheet's layout (document 02, change 8): the header ends with the totals, so that records start sooner

abbrev pub old_least_size : ℕ
old_least_size = 48

abbrev pub old_first_record : ℕ
old_first_record = 11
