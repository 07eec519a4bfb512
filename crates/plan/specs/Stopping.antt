-- The four ways to stop. Document 01, "Four ways to stop".
use Rattle.std.specs.Prelude.{ℕ, ◌+◌, ◌-◌, Bool, true, false, not, cond, ◌&&◌, ◌||◌, List, [], ◌∷◌, leb, ltb, eqb}
use Rattle.plan.specs.declared.counts.Counts.{Counts}
use Rattle.plan.specs.declared.stage.Answer.{Answer}
use Rattle.plan.specs.declared.stage.Answer.TheVariants.{GoOn, Accept, Reject}
use Rattle.plan.specs.declared.ways.StageWay.{StageWay}
use Rattle.plan.specs.declared.ways.StageWay.TheVariants.{Uncurtailed, Semi, Full}
use Rattle.plan.specs.declared.ways.Way.{Way}
use Rattle.plan.specs.declared.ways.Way.TheVariants.{Staged, Earliest}
use Rattle.plan.specs.declared.stage.Stage.{Stage}
use Rattle.plan.specs.Plan.{marked}
use Rattle.plan.specs.Counts.{units, nongood, nonbad, add_units}

-- the numbers of the three states: 0 undecided, 1 accepted, 2 rejected
abbrev pub state : Answer → ℕ
state GoOn = 0
state Accept = 1
state Reject = 2

abbrev pub goes_on : Answer → Bool
goes_on GoOn = true
goes_on Accept = false
goes_on Reject = false

-- the answer a, or b where a goes on
unfoldable pub or_else : Answer → Answer → Answer
or_else GoOn b = b
or_else Accept b = Accept
or_else Reject b = Reject

-- ---- at one stage, which ends after `end` units

unfoldable pub rejects : Stage → Counts → Bool
rejects s c = leb s.reject2 c.bad || leb s.reject1 (nongood c)

-- acceptance is permitted, and so many bad units and so many nongood ones are within the acceptance numbers
unfoldable pub accepts : Stage → ℕ → ℕ → Bool
accepts s bad nongood = not (marked s) && leb bad s.accept2 && leb nongood s.accept1

-- the answer by the two tests: rejection goes first
unfoldable pub decide : Bool → Bool → Answer
decide rejected accepted = cond rejected Reject (cond accepted Accept GoOn)

-- at the stage's end
unfoldable pub at_end : Stage → Counts → Answer
at_end s c = decide (rejects s c) (accepts s c.bad (nongood c))

unfoldable pub uncurtailed_at : ℕ → Stage → Counts → Answer
uncurtailed_at end s c = cond (eqb (units c) end) (at_end s c) GoOn

unfoldable pub semi_at : ℕ → Stage → Counts → Answer
semi_at end s c = cond (rejects s c) Reject (uncurtailed_at end s c)

-- 01 has nonbad ≥ end − a2 and good ≥ end − a1: the same as end − nonbad ≤ a2 and end − good ≤ a1
unfoldable pub full_at : ℕ → Stage → Counts → Answer
full_at end s c = decide (rejects s c) (accepts s (end - nonbad c) (end - c.good))

-- ---- at the current stage of the units c: the first that ends after no fewer units

unfoldable pub current : (ℕ → Stage → Counts → Answer) → ℕ → List Stage → Counts → Answer
current way before [] c = GoOn
current way before (s ∷ rest) c = cond (leb (units c) (before + s.size)) (way (before + s.size) s c) (current way (before + s.size) rest c)

unfoldable pub at_stage : StageWay → ℕ → Stage → Counts → Answer
at_stage Uncurtailed = uncurtailed_at
at_stage Semi = semi_at
at_stage Full = full_at

unfoldable pub staged : StageWay → List Stage → Counts → Answer
staged way p c = current (at_stage way) 0 p c

-- ---- earliest: by the worst and the best case (01: the far ends of completion)

-- the first answer of the stages that does not go on: `at end s` answers for the stage s, which ends after `end` units
unfoldable pub first_answer : (ℕ → Stage → Answer) → ℕ → List Stage → Answer
first_answer at before [] = GoOn
first_answer at before (s ∷ rest) = or_else (at (before + s.size) s) (first_answer at (before + s.size) rest)

-- a stage's end where every unit after the units c has one class. An end before c went on
unfoldable pub at_filled : ℕ → Counts → ℕ → Stage → Answer
at_filled class c end s = cond (ltb end (units c)) GoOn (at_end s (add_units class (end - units c) c))

-- the uncurtailed verdict then; the stages come after `before` units
unfoldable pub completed : ℕ → ℕ → List Stage → Counts → Answer
completed class before p c = first_answer (at_filled class c) before p

unfoldable pub only_reject : Answer → Answer
only_reject GoOn = GoOn
only_reject Accept = GoOn
only_reject Reject = Reject

-- accepted where even the worst case is accepted, rejected where even the best case is rejected
unfoldable pub settled : Answer → Answer → Answer
settled Accept best = Accept
settled Reject best = only_reject best
settled GoOn best = only_reject best

unfoldable pub earliest : List Stage → Counts → Answer
earliest p c = settled (completed 2 0 p c) (completed 0 0 p c)

-- ---- the four ways

unfoldable pub answer : Way → List Stage → Counts → Answer
answer (Staged way) p c = staged way p c
answer Earliest p c = earliest p c
