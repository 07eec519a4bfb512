-- `sheet::estimate` meets its contract: the tests are in the order of the table. Assumes nothing.
use mathlib.Core.Path.{◌≡◌, refl, sym, ap, ◌∙◌}
use native.Mathlib.Omega.{arith}
use Rattle.sheetmodel.specs.Layout.{field, newest}
use Rattle.sheetmodel.specs.Read.{undecided}
use Rattle.sheet.specs.Estimating.{evidence_counts}
use Rattle.std.proofs.lemmas.Result.{err_from_is_err_and}
use Rattle.sheet.proofs.LocatedFacts.{with_lot}
use Rattle.sheet.proofs.CallSteps.{long, lot_inside, answer_requires}
use Rattle.sheet.proofs.EstimateSteps.{estimate_refused, estimate_undecided, estimate_stages, newest_unit, evidence_requires, evidence_few, estimate_granted}
use Rattle.sheet.proofs.estimating.estimate.Goals as goal

-- k: what is known where the lot is found

pub answer_to-requires : goal.answer_to-requires
answer_to-requires c =
    let k = with_lot c.args.lot c.args.sheet.now c.in_ok-found.found (sym c.in_ok-found.ensures) in
    answer_requires _ _ _ k

pub returns-then-goes_on : goal.returns-then-goes_on
returns-then-goes_on c =
    let k = with_lot c.args.lot c.args.sheet.now c.in_ok-found.found (sym c.in_ok-found.ensures) in
    rw (estimate_undecided _ _ _ k (sym (ap undecided c.answer_to.ensures) ∙ sym c.goes_on.ensures ∙ c.if-goes_on.true)) refl

pub returns-then-sheet-gt1 : goal.returns-then-sheet-gt1
returns-then-sheet-gt1 c =
    let k = with_lot c.args.lot c.args.sheet.now c.in_ok-found.found (sym c.in_ok-found.ensures) in
    let decided = sym (ap undecided c.answer_to.ensures) ∙ sym c.goes_on.ensures ∙ c.if-goes_on.false in
    rw (estimate_stages _ _ _ k decided c.if-sheet-gt1.true) refl

pub field_of-newest-requires : goal.field_of-newest-requires
field_of-newest-requires c =
    let k = with_lot c.args.lot c.args.sheet.now c.in_ok-found.found (sym c.in_ok-found.ensures) in
    omega (arith, lot_inside _ _ _ k)

pub field_of-requires : goal.field_of-requires
field_of-requires c =
    let k = with_lot c.args.lot c.args.sheet.now c.in_ok-found.found (sym c.in_ok-found.ensures) in
    let decided = sym (ap undecided c.answer_to.ensures) ∙ sym c.goes_on.ensures ∙ c.if-goes_on.false in
    rw c.field_of-newest.ensures (omega (arith, (newest_unit _ _ _ k decided).inside))

pub evidence-c-requires : goal.evidence-c-requires
evidence-c-requires c =
    let k = with_lot c.args.lot c.args.sheet.now c.in_ok-found.found (sym c.in_ok-found.ensures) in
    let decided = sym (ap undecided c.answer_to.ensures) ∙ sym c.goes_on.ensures ∙ c.if-goes_on.false in
    rw (c.field_of.ensures, c.field_of-newest.ensures) (evidence_requires _ _ _ k decided)

pub units-requires : goal.units-requires
units-requires c =
    let k = with_lot c.args.lot c.args.sheet.now c.in_ok-found.found (sym c.in_ok-found.ensures) in
    let decided = sym (ap undecided c.answer_to.ensures) ∙ sym c.goes_on.ensures ∙ c.if-goes_on.false in
    let counted : c.evidence-c.result ≡ evidence_counts (field c.args.sheet.now (newest c.args.sheet.now c.in_ok-found.found.at) 0) c.in_ok-found.found.chain.counts = rw (sym c.field_of-newest.ensures, sym c.field_of.ensures) c.evidence-c.ensures in
    rw counted (evidence_few _ _ _ k decided)

pub returns-in_err-found : goal.returns-in_err-found
returns-in_err-found c =
    let p = err_from_is_err_and c.from_residual.result c.from_residual.ensures.1 in
    rw (p.1, p.2) (rw (estimate_refused c.args.lot c.args.sheet.now _ (sym c.in_err-found.ensures)) refl)

pub returns : goal.returns
returns c =
    let k = with_lot c.args.lot c.args.sheet.now c.in_ok-found.found (sym c.in_ok-found.ensures) in
    let decided = sym (ap undecided c.answer_to.ensures) ∙ sym c.goes_on.ensures ∙ c.if-goes_on.false in
    let counted : c.evidence-c.result ≡ evidence_counts (field c.args.sheet.now (newest c.args.sheet.now c.in_ok-found.found.at) 0) c.in_ok-found.found.chain.counts = rw (sym c.field_of-newest.ensures, sym c.field_of.ensures) c.evidence-c.ensures in
    rw (estimate_granted _ _ _ k decided c.if-sheet-gt1.false c.evidence-c.result counted)
    (rw (c.from.ensures, c.from-2.ensures, c.from-3.ensures, c.from-4.ensures, c.units.ensures) refl)

pub bounds-sheet-3 : goal.bounds-sheet-3
bounds-sheet-3 c =
    let k = with_lot c.args.lot c.args.sheet.now c.in_ok-found.found (sym c.in_ok-found.ensures) in
    omega (arith, long _ _ _ k)
