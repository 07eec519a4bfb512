-- Offices and their shares of the records. Document 02, change 7.
use Rattle.std.specs.Prelude.{ℕ, zero, suc, ◌+◌, ◌-◌, ◌%◌, Bool, cond, ◌||◌, List, [], ◌∷◌, length, replicate, leb, ltb, eqb}
use Rattle.sheetmodel.specs.Layout.{word, records, next_unused, first_record, offices, share}
use Rattle.sheetmodel.specs.Contents.{Lot, Contents}

-- a lot's office: its number's remainder by 16
abbrev pub office : ℕ → ℕ
office n = n % offices

-- f of the offices below n, added up
unfoldable pub added_up : ℕ → (ℕ → ℕ) → ℕ
added_up zero f = 0
added_up (suc o) f = added_up o f + f o

-- no office has a share
abbrev pub no_shares : List ℕ
no_shares = replicate offices 0

-- the shares add to no more than the records from 15 on
unfoldable pub shares_fit : (ℕ → ℕ) → List ℕ → Bool
shares_fit shares w = leb (added_up offices shares) (records w - first_record)

-- the records that an office holds: its lots and their inspections
abbrev pub held_by : Lot → ℕ → ℕ
held_by l o = cond (eqb (office l.number) o) (1 + length l.inspections) 0

abbrev pub held : List Lot → ℕ → ℕ
held [] o = 0
held (l ∷ ls) o = held_by l o + held ls o

-- what an office still lacks to reach its share; all offices; all but one
abbrev pub lacking : List ℕ → List Lot → ℕ → ℕ
lacking w ls o = share w o - held ls o

abbrev pub all_lacking : List ℕ → List Lot → ℕ
all_lacking w ls = added_up offices (lacking w ls)

abbrev pub others_lacking : List ℕ → List Lot → ℕ → ℕ
others_lacking w ls o = added_up offices (λ a. cond (eqb a o) 0 (lacking w ls a))

-- the records free and unused
abbrev pub spare : List ℕ → Contents → ℕ
spare w s = length s.free + (records w - word w next_unused)

-- the rule: a needed record is granted if the office holds fewer records than its share, or if the records free and unused exceed
-- what the other offices still lack
unfoldable pub may_take : List ℕ → Contents → ℕ → Bool
may_take w s o =
    ltb (held s.lots o) (share w o) ||
    ltb (others_lacking w s.lots o) (spare w s)
