-- `sheet::inspect` meets its contract: the tests are in the order of the table. Assumes nothing.
use mathlib.Core.Path.{◌≡◌, refl, sym, ap, ◌∙◌}
use mathlib.Core.Bool.{true}
use Rattle.plan.specs.Plan.{stages}
use Rattle.plan.specs.Stopping.{earliest}
use Rattle.sheetmodel.specs.Layout.{plan_words}
use Rattle.sheetmodel.specs.Read.{undecided}
use Rattle.std.proofs.lemmas.Result.{err_from_is_err_and}
use Rattle.sheet.proofs.LocatedFacts.{with_lot, lot_whole_sheet}
use Rattle.sheet.proofs.CallSteps.{answer_requires, few, inspect_refused, inspect_class, inspect_decided, inspect_denied, inspect_requires, inspect_granted}
use Rattle.sheet.proofs.inspecting.inspect.Goals as goal

-- k: what is known where the lot is found

pub returns-then-class-gt-HIGHEST_CLASS : goal.returns-then-class-gt-HIGHEST_CLASS
returns-then-class-gt-HIGHEST_CLASS c =
    let k = with_lot c.args.lot c.args.sheet.now c.in_ok-found.found (sym c.in_ok-found.ensures.value) in
    rw (inspect_class _ c.args.class _ _ k c.if-class-gt-HIGHEST_CLASS.true) (record { value = refl; sheet_after = refl })

pub answer_to-requires : goal.answer_to-requires
answer_to-requires c =
    let k = with_lot c.args.lot c.args.sheet.now c.in_ok-found.found (sym c.in_ok-found.ensures.value) in
    answer_requires _ _ _ k

pub returns-then-not-goes_on : goal.returns-then-not-goes_on
returns-then-not-goes_on c =
    let k = with_lot c.args.lot c.args.sheet.now c.in_ok-found.found (sym c.in_ok-found.ensures.value) in
    rw (inspect_decided _ c.args.class _ _ k c.if-class-gt-HIGHEST_CLASS.false
    (sym (ap undecided c.answer_to.ensures) ∙ sym c.goes_on.ensures ∙ c.if-not-goes_on.true)) (record { value = refl; sheet_after = refl })

pub invariant_of-holdings : goal.invariant_of-holdings
invariant_of-holdings c =
    let k = with_lot c.args.lot c.args.sheet.now c.in_ok-found.found (sym c.in_ok-found.ensures.value) in
    record { whole = lot_whole_sheet _ _ _ k; counted = c.in_ok-found.ensures.counted_on }

pub units-requires : goal.units-requires
units-requires c =
    let k = with_lot c.args.lot c.args.sheet.now c.in_ok-found.found (sym c.in_ok-found.ensures.value) in
    few _ _ _ k

pub add_inspection-requires : goal.add_inspection-requires
add_inspection-requires c =
    let k = with_lot c.args.lot c.args.sheet.now c.in_ok-found.found (sym c.in_ok-found.ensures.value) in
    rw c.units.ensures (inspect_requires _ c.args.class _ _ k (sym c.in_ok-grant_record.ensures))

pub returns-in_err-found : goal.returns-in_err-found
returns-in_err-found c =
    let p = err_from_is_err_and c.from_residual.result c.from_residual.ensures.1 in
    rw (p.1, p.2) (rw (inspect_refused c.args.lot c.args.class c.args.sheet.now _ (sym c.in_err-found.ensures.value)) (record { value = refl; sheet_after = refl }))

pub returns-in_err-grant_record : goal.returns-in_err-grant_record
returns-in_err-grant_record c =
    let k = with_lot c.args.lot c.args.sheet.now c.in_ok-found.found (sym c.in_ok-found.ensures.value) in
    let goes_on : undecided (earliest (stages (plan_words c.args.sheet.now)) c.in_ok-found.found.chain.counts) ≡ true = sym (ap undecided c.answer_to.ensures) ∙ sym c.goes_on.ensures ∙ c.if-not-goes_on.false in
    let p = err_from_is_err_and c.from_residual-in_err-grant_record.result c.from_residual-in_err-grant_record.ensures.1 in
    rw (p.1, p.2) (rw (inspect_denied _ c.args.class _ _ k c.if-class-gt-HIGHEST_CLASS.false goes_on _ (sym c.in_err-grant_record.ensures))
    (record { value = refl; sheet_after = refl }))

pub returns : goal.returns
returns c =
    let k = with_lot c.args.lot c.args.sheet.now c.in_ok-found.found (sym c.in_ok-found.ensures.value) in
    let goes_on : undecided (earliest (stages (plan_words c.args.sheet.now)) c.in_ok-found.found.chain.counts) ≡ true = sym (ap undecided c.answer_to.ensures) ∙ sym c.goes_on.ensures ∙ c.if-not-goes_on.false in
    rw (inspect_granted _ c.args.class _ _ k c.if-class-gt-HIGHEST_CLASS.false goes_on (sym c.in_ok-grant_record.ensures))
    (record { value = refl; sheet_after = rw c.units.ensures at c.add_inspection.ensures })
