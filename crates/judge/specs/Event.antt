-- The six events at full's stop of a plan with one stage: size n, rejection numbers r1 (nongood) and r2 (bad).
-- Document 01, "Lists, events, estimates"; 003, 5.5.1.
use Rattle.std.specs.Prelude.{ℕ, ◌+◌, ◌-◌, Bool, cond, ◌&&◌, List, [], ◌∷◌, ltb, eqb}
use Rattle.plan.specs.declared.counts.Counts.{Counts}
use Rattle.plan.specs.Counts.{nongood, nonbad}

-- G1 = n − r1 + 1, and G2 alike
abbrev pub limit : ℕ → ℕ → ℕ
limit n r = n - r + 1

-- the six conditions in their order
abbrev pub events : ℕ → ℕ → ℕ → Counts → List Bool
events n r1 r2 c =
    (eqb (nonbad c) (limit n r2) && ltb (limit n r1) c.good) ∷
    (eqb c.good (limit n r1) && ltb (r1 - r2) c.marginal) ∷
    (eqb (nonbad c) (limit n r2) && eqb c.good (limit n r1)) ∷
    (eqb c.bad r2 && ltb c.marginal (r1 - r2)) ∷
    (eqb (nongood c) r1 && ltb c.bad r2) ∷
    (eqb c.bad r2 && eqb c.marginal (r1 - r2)) ∷
    []

-- the place of the first that holds, the list's first being k; 0 if none does
abbrev pub first_true : ℕ → List Bool → ℕ
first_true k [] = 0
first_true k (t ∷ rest) = cond t k (first_true (k + 1) rest)

abbrev pub event_at : ℕ → ℕ → ℕ → Counts → ℕ
event_at n r1 r2 c = first_true 1 (events n r1 r2 c)

-- how many hold
abbrev pub how_many : List Bool → ℕ
how_many [] = 0
how_many (t ∷ rest) = cond t 1 0 + how_many rest
