-- The call carry: an old sheet, whose header has no shares, into a second one under given shares. Document 02, change 8.
use Rattle.std.specs.Prelude.{ℕ, zero, suc, ◌+◌, ◌-◌, ◌*◌, cond, ◌&&◌, not, List, [], ◌∷◌, ◌++◌, get_or, take, drop, ltb, eqb}
use Rattle.std.specs.declared.result.Result.{Result}
use Rattle.plan.specs.declared.refusal.Refusal.{Refusal}
use Rattle.plan.specs.declared.refusal.Refusal.TheVariants as refusal
use Rattle.plan.specs.Refusal.{Row}
use Rattle.sheetmodel.specs.Layout.{size_from, size_ok, word, field, records, next_unused, first_lot, first_free, stage_count, shares_start, old_least_size, old_first_record}
use Rattle.sheetmodel.specs.Offices.{shares_fit}
use Rattle.sheetmodel.specs.Read.{read_from}
use Rattle.sheetmodel.specs.Rows.{row, is_some}
use Rattle.sheetmodel.specs.Calls.{Outcome, outcome}

-- every record index is raised by four; an index of zero remains zero
abbrev pub raised : ℕ → ℕ
raised j = cond (eqb j 0) 0 (j + 4)

-- n records of the words w, from record j on. Words 1 and 2 of a lot and of an inspection are indexes; of a free record word 1 is one,
-- and word 2 is zero
unfoldable pub raised_records : List ℕ → ℕ → ℕ → List ℕ
raised_records w j zero = []
raised_records w j (suc n) = field w j 0 ∷ raised (field w j 1) ∷ raised (field w j 2) ∷ field w j 3 ∷ raised_records w (j + 1) n

-- the second sheet's next record never used; that many records, from record 0 on, it has to have
abbrev pub carried_next : List ℕ → ℕ
carried_next old = word old next_unused + 4

-- the header before the shares: three indexes, and from the number of stages to the totals what the old one has
abbrev pub carried_header : List ℕ → List ℕ
carried_header old =
    carried_next old ∷ raised (word old first_lot) ∷ raised (word old first_free) ∷
    take (shares_start - stage_count) (drop stage_count old)

-- the records in use, free ones included
abbrev pub carried_records : List ℕ → List ℕ
carried_records old = raised_records old old_first_record (word old next_unused - old_first_record)

-- the words past the carried records keep their values
unfoldable pub carry_words : List ℕ → List ℕ → List ℕ → List ℕ
carry_words old shares w =
    carried_header old ++ (shares ++ (carried_records old ++ drop (4 * carried_next old) w))

-- ---- the call; the old sheet is only read

unfoldable pub carry_rows : List ℕ → List ℕ → List ℕ → List Row
carry_rows old shares w =
    row refusal.Size (not (size_from old_least_size old && size_ok w)) ∷
    row refusal.Corrupt (not (is_some (read_from old_first_record old))) ∷
    row refusal.Shares (not (shares_fit (λ o. get_or shares o 0) w)) ∷
    row refusal.NoFit (ltb (records w) (carried_next old)) ∷ []

unfoldable pub carry : List ℕ → List ℕ → List ℕ → Outcome (Result (Unit {0}) Refusal)
carry old shares w = outcome (carry_rows old shares w) w tt (carry_words old shares w)
