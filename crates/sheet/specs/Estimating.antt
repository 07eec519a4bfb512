-- Counts with one unit less, and the counts of the units that an estimate counts.
use Rattle.std.specs.Prelude.{ℕ, ◌-◌, cond, eqb}
use Rattle.plan.specs.declared.counts.Counts.{Counts}
use Rattle.plan.specs.Counts.{units}

-- the units of a class; every class but 0 and 2 counts as marginal
abbrev pub units_of_class : ℕ → Counts → ℕ
units_of_class x c = cond (eqb x 0) c.good (cond (eqb x 2) c.bad c.marginal)

abbrev pub without_unit : ℕ → Counts → Counts
without_unit x c =
    cond (eqb x 0) (record { good = c.good - 1; marginal = c.marginal; bad = c.bad })
    (cond (eqb x 2) (record { good = c.good; marginal = c.marginal; bad = c.bad - 1 })
    (record { good = c.good; marginal = c.marginal - 1; bad = c.bad }))

-- of a lot with the counts c whose last unit has the class x: the only unit, else all but the last
abbrev pub evidence_counts : ℕ → Counts → Counts
evidence_counts x c = cond (eqb (units c) 1) c (without_unit x c)
