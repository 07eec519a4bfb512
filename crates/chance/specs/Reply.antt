-- What `chance` and `chart` answer, and what they and the calls on expected units leave of the scratch (01: the bench). Document 01,
-- "Refused" and "Chance of acceptance".
use Rattle.std.specs.Prelude.{ℕ, ◌*◌, ◌≡◌, not, cond, ◌||◌, List, [], ◌∷◌, length, drop, ltb, eqb, Float}
use Rattle.std.specs.declared.result.Result.{Result}
use Rattle.std.specs.declared.result.Result.TheVariants.{Ok, Err}
use Rattle.plan.specs.declared.refusal.Refusal.{Refusal}
use Rattle.plan.specs.declared.refusal.Refusal.TheVariants as refusal
use Rattle.plan.specs.declared.stage.Stage.{Stage}
use Rattle.plan.specs.Plan.{stages, last_reject1, last_reject2, admitted}
use Rattle.plan.specs.Refusal.{Row, number, first_refusal}
use Rattle.plan.specs.Reply.{Reply, granted, refused}
use Rattle.chance.specs.declared.mean.Weights.{Weights}
use Rattle.chance.specs.declared.setting.Worth.{Worth}
use Rattle.chance.specs.declared.setting.Kind.TheVariants.{Same}
use Rattle.chance.specs.declared.answers.Interval.{Interval}
use Rattle.chance.specs.Bounds.{Bounds, weight_sum, Valuation}
use Rattle.chance.specs.Chance.{low, high}
use Rattle.chance.specs.Layer.{valuation, valued_bounds}
use Rattle.chance.specs.Fraction.{power, divided, Exactly}

-- low and high as floats
abbrev pub Chart : Type 0
Chart = Interval Float

abbrev pub weights_of : ℕ → ℕ → ℕ → Weights
weights_of w0 w1 w2 = record { good = w0; marginal = w1; bad = w2 }

-- ---- an answer's number and values

-- low and high
abbrev pub bounds_reply : Result Bounds Refusal → Reply
bounds_reply (Ok b) = granted (b.low ∷ b.high ∷ [])
bounds_reply (Err r) = refused (number r)

-- the values of a chart are floats, which a reply does not hold
abbrev pub chart_reply : Result Chart Refusal → Reply
chart_reply (Ok c) = granted []
chart_reply (Err r) = refused (number r)

abbrev pub chart_values : Result Chart Refusal → List Float
chart_values (Ok c) = c.low ∷ c.high ∷ []
chart_values (Err r) = []

-- ---- refusals

-- the words of scratch that a plan needs: 2 × last r1 × last r2
abbrev pub needed : List ℕ → ℕ
needed plan = 2 * (last_reject1 (stages plan) * last_reject2 (stages plan))

-- rows of the table "Refused": the plan is not admitted
abbrev pub plan_row : List ℕ → Row
plan_row plan = record { refusal = refusal.Plan; when = not (admitted plan) }

-- the weights add to 0 or above 1,000,000
abbrev pub weights_row : Weights → Row
weights_row w = record { refusal = refusal.Weights; when = eqb (weight_sum w) 0 || ltb 1000000 (weight_sum w) }

-- n words of scratch are too few
abbrev pub scratch_row : List ℕ → ℕ → Row
scratch_row plan n = record { refusal = refusal.Scratch; when = ltb n (needed plan) }

abbrev pub refusals : List ℕ → Weights → ℕ → List Row
refusals plan w n = plan_row plan ∷ weights_row w ∷ scratch_row plan n ∷ []

-- ---- the answers

abbrev pub bounds_of : List Stage → Weights → Bounds
bounds_of p w = record { low = low p w; high = high p w }

-- bounds divided by a float
abbrev pub divided_bounds : Float → Bounds → Chart
divided_bounds one b = record { low = divided b.low one; high = divided b.high one }

-- and by 2^k
abbrev pub floats : ℕ → Bounds → Chart
floats k = divided_bounds (power k)

abbrev pub chart_of : List Stage → Weights → Chart
chart_of p w = floats 40 (bounds_of p w)

-- `chance`: the first row that applies, else low and high
unfoldable pub chance_answer : List ℕ → Weights → ℕ → Result Bounds Refusal
chance_answer plan w n = first_refusal Err (refusals plan w n) (Ok (bounds_of (stages plan) w))

-- the same of any value at acceptance and any cost of a unit
abbrev pub weighted_answer : List ℕ → Weights → Worth → ℕ → Result Bounds Refusal
weighted_answer plan w worth n =
    first_refusal Err (refusals plan w n) (Ok (valued_bounds plan (valuation plan worth w Same)))

-- the last row alone, and the words that may change by it
abbrev pub fitted_answer : List ℕ → Valuation → ℕ → Result Bounds Refusal
fitted_answer plan v n = cond (ltb n (needed plan)) (Err refusal.Scratch) (Ok (valued_bounds plan v))

abbrev pub fitted_words : List ℕ → ℕ → ℕ
fitted_words plan n = cond (ltb n (needed plan)) 0 (needed plan)

-- `chart`: refused alike, else low and high as floats
unfoldable pub chart_answer : List ℕ → Weights → ℕ → Result Chart Refusal
chart_answer plan w n = first_refusal Err (refusals plan w n) (Ok (chart_of (stages plan) w))

-- the floats of a pair are the bounds divided by 2^k, exactly
abbrev pub ExactFloats : ℕ → Bounds → Result Chart Refusal → Type 0
ExactFloats k b (Ok c) = Exactly c.low b.low k × Exactly c.high b.high k
ExactFloats k b (Err r) = Unit {0}

-- those of `chart`, low / 2^40 and high / 2^40
abbrev pub ExactChart : List ℕ → Weights → Result Chart Refusal → Type 0
ExactChart plan w = ExactFloats 40 (bounds_of (stages plan) w)

-- an answer's bounds divided by a float, or its refusal
abbrev pub divided_answer : Float → Result Bounds Refusal → Result Chart Refusal
divided_answer one (Ok b) = Ok (divided_bounds one b)
divided_answer one (Err r) = Err r

-- ---- the scratch

-- how many words of the scratch a call with these rows may change: none where it is refused, else those that the plan needs
unfoldable pub written : List Row → List ℕ → ℕ
written rows plan = first_refusal (λ r. 0) rows (needed plan)

-- all other words of the scratch are as before
abbrev pub Kept : List Row → List ℕ → List ℕ → List ℕ → Type 0
Kept rows plan before after = drop (written rows plan) after ≡ drop (written rows plan) before

-- of `chance`, `chart`, `units` and `units_chart`
abbrev pub Keeps : List ℕ → Weights → List ℕ → List ℕ → Type 0
Keeps plan w before after = Kept (refusals plan w (length before)) plan before after
