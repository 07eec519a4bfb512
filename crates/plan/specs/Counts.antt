-- Units by class: 0 good, 1 marginal, 2 bad, and 3 blank, which counts as marginal. Document 01, "Plan"; document 02, change 4.
use Rattle.std.specs.Prelude.{ℕ, zero, suc, ◌+◌, List, [], ◌∷◌}
use Rattle.plan.specs.declared.counts.Counts.{Counts}

abbrev pub nongood : Counts → ℕ
nongood c = c.marginal + c.bad

abbrev pub nonbad : Counts → ℕ
nonbad c = c.good + c.marginal

abbrev pub units : Counts → ℕ
units c = c.good + c.marginal + c.bad

abbrev pub no_units : Counts
no_units = record { good = 0; marginal = 0; bad = 0 }

-- the units of both
abbrev pub both : Counts → Counts → Counts
both c d = record { good = c.good + d.good; marginal = c.marginal + d.marginal; bad = c.bad + d.bad }

-- n units more of one class; every class but 0 and 2 counts as marginal
unfoldable pub add_units : ℕ → ℕ → Counts → Counts
add_units zero n c = record { good = c.good + n; marginal = c.marginal; bad = c.bad }
add_units (suc zero) n c = record { good = c.good; marginal = c.marginal + n; bad = c.bad }
add_units (suc (suc zero)) n c = record { good = c.good; marginal = c.marginal; bad = c.bad + n }
add_units (suc (suc (suc x))) n c = record { good = c.good; marginal = c.marginal + n; bad = c.bad }

unfoldable pub counts_after : Counts → List ℕ → Counts
counts_after c [] = c
counts_after c (x ∷ xs) = counts_after (add_units x 1 c) xs

unfoldable pub counts : List ℕ → Counts
counts = counts_after no_units
