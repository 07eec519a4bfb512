-- `sheet::survey` meets its contract: the header, the lots, the free records, and their number. Assumes nothing.
use Rattle.std.proofs.Common.{◌≡◌, ℕ, List, true, ◌≤◌, length, refl, sym, ap, ◌∙◌}
use Rattle.plan.proofs.Bools.{and_left, and_right}
use borrow.Author.Tests.{leb-true}
use Rattle.plan.specs.Plan.{stages, admitted}
use Rattle.plan.proofs.Promise.{shape}
use Rattle.std.specs.Prelude.{Option, Some, None}
use Rattle.sheet.specs.declared.survey.Found.{Found}
use Rattle.sheetmodel.specs.Layout.{shares_start, greatest_size, word, records, next_unused, first_lot, first_free, plan_words}
use Rattle.sheetmodel.specs.Read.{depth, read_lots, read_free, read_from, header_ok}
use Rattle.sheet.specs.Survey.{Sized, nothing_found, lots_survey, free_of, survey_of}
use Rattle.sheet.proofs.HeaderSteps.{few_stages}
use Rattle.sheet.proofs.SurveySteps.{by_walks, by_code, no_header, counted_whole}
use Rattle.sheet.proofs.size.Sheet.survey.Goals as goal

-- the plan is admitted, and no record in use lies beyond the words
record Header (w : List ℕ) : Type 0 where
  plan : admitted (plan_words w) ≡ true
  room : word w next_unused ≤ records w

header : (first : ℕ) (w : List ℕ) → header_ok first w ≡ true → Header w
header first w e = record { plan = search (and_left, and_right) depth 10; room = leb-true (word w next_unused) (records w) (search (and_left, and_right) depth 10) }

sized : (first : ℕ) (w : List ℕ) → shares_start ≤ length w → length w ≤ greatest_size → header_ok first w ≡ true → Sized w
sized first w long short e = record { long = long; short = short; room = (header first w e).room }

-- what the survey gives, by the lots v of the plan p and the free records k
by_both : (first : ℕ) (w : List ℕ) (sought : ℕ) → header_ok first w ≡ true → (p : List ℕ) → p ≡ plan_words w
    → (v : Option Found) → v ≡ lots_survey (stages p) sought nothing_found (read_lots first w (records w) 0 (word w first_lot))
    → (k : Option ℕ) → k ≡ free_of (read_free first w (depth w) (word w first_free))
    → by_walks first w v k ≡ survey_of sought (read_from first w)
by_both first w sought ok p e v l k f =
    by_code first w sought ok v (l ∙ ap (λ (q : List ℕ). lots_survey (stages q) sought nothing_found (read_lots first w (records w) 0 (word w first_lot))) e) k f

-- ---- the answers

pub returns-then-not-header_ok-clause-value : goal.returns-then-not-header_ok-clause-value
returns-then-not-header_ok-clause-value c = sym (no_header c.args.first c.args.self.words.now c.args.sought (sym c.header_ok.ensures ∙ c.if-not-header_ok.true))

pub invariant_of-plan : goal.invariant_of-plan
invariant_of-plan c =
    let h = header c.args.first c.args.self.words.now (sym c.header_ok.ensures ∙ c.if-not-header_ok.false) in
    record { long = c.args.self.long; few = few_stages c.args.self.words.now c.args.self.long h.plan }

pub sample_size-most-requires : goal.sample_size-most-requires
sample_size-most-requires c =
    let h = header c.args.first c.args.self.words.now (sym c.header_ok.ensures ∙ c.if-not-header_ok.false) in
    rw c.plan-plan.ensures (shape (plan_words c.args.self.words.now) h.plan).thousand_units

pub returns-in_err-found-clause-value : goal.returns-in_err-found-clause-value
returns-in_err-found-clause-value c =
    rw c.from_residual.ensures
    (by_both c.args.first c.args.self.words.now c.args.sought (sym c.header_ok.ensures ∙ c.if-not-header_ok.false) _ c.plan-plan.ensures None c.in_err-found.ensures.value _ refl)

pub returns-in_err-free-clause-value : goal.returns-in_err-free-clause-value
returns-in_err-free-clause-value c =
    rw c.from_residual-in_err-free.ensures
    (by_both c.args.first c.args.self.words.now c.args.sought (sym c.header_ok.ensures ∙ c.if-not-header_ok.false) _ c.plan-plan.ensures
    (Some c.in_ok-found.found) c.in_ok-found.ensures.value None c.in_err-free.ensures)

pub returns-then-count_ok-clause-value : goal.returns-then-count_ok-clause-value
returns-then-count_ok-clause-value c =
    let both = by_both c.args.first c.args.self.words.now c.args.sought (sym c.header_ok.ensures ∙ c.if-not-header_ok.false) _ c.plan-plan.ensures
    (Some c.in_ok-found.found) c.in_ok-found.ensures.value (Some c.in_ok-free.free) c.in_ok-free.ensures in
    rw (sym c.count_ok.ensures ∙ c.if-count_ok.true) at both

pub returns-then-count_ok-clause-counted : goal.returns-then-count_ok-clause-counted
returns-then-count_ok-clause-counted c =
    let both = by_both c.args.first c.args.self.words.now c.args.sought (sym c.header_ok.ensures ∙ c.if-not-header_ok.false) _ c.plan-plan.ensures
    (Some c.in_ok-found.found) c.in_ok-found.ensures.value (Some c.in_ok-free.free) c.in_ok-free.ensures in
    let is = rw (sym c.count_ok.ensures ∙ c.if-count_ok.true) at both in
    counted_whole c.args.first c.args.self.words.now c.args.sought c.in_ok-found.found _ (sym is) c.in_ok-found.ensures.counted

pub returns-else-count_ok-clause-value : goal.returns-else-count_ok-clause-value
returns-else-count_ok-clause-value c =
    let both = by_both c.args.first c.args.self.words.now c.args.sought (sym c.header_ok.ensures ∙ c.if-not-header_ok.false) _ c.plan-plan.ensures
    (Some c.in_ok-found.found) c.in_ok-found.ensures.value (Some c.in_ok-free.free) c.in_ok-free.ensures in
    rw (sym c.count_ok.ensures ∙ c.if-count_ok.false) at both
