-- `sheet::close` meets its contract: the tests are in the order of the table. Assumes nothing.
use mathlib.Core.Path.{refl, sym, ap, ◌∙◌}
use Rattle.sheetmodel.specs.Read.{undecided}
use Rattle.std.proofs.lemmas.Result.{err_from_is_err_and}
use Rattle.sheet.proofs.LocatedFacts.{with_lot}
use Rattle.sheet.proofs.CallSteps.{answer_requires, long, close_refused, close_undecided, close_full, close_requires, close_granted}
use Rattle.sheet.proofs.closing.close.Goals as goal

-- k: what is known where the lot is found

pub answer_to-answer-requires : goal.answer_to-answer-requires
answer_to-answer-requires c =
    let k = with_lot c.args.lot c.args.sheet.now c.in_ok-found.found (sym c.in_ok-found.ensures) in
    answer_requires _ _ _ k

pub returns-then-goes_on : goal.returns-then-goes_on
returns-then-goes_on c =
    let k = with_lot c.args.lot c.args.sheet.now c.in_ok-found.found (sym c.in_ok-found.ensures) in
    rw (close_undecided _ _ _ k (sym (ap undecided c.answer_to-answer.ensures) ∙ sym c.goes_on.ensures ∙ c.if-goes_on.true)) (record { value = refl; sheet_after = refl })

pub are_full-requires : goal.are_full-requires
are_full-requires c =
    let k = with_lot c.args.lot c.args.sheet.now c.in_ok-found.found (sym c.in_ok-found.ensures) in
    long _ _ _ k

pub returns-then-are_full : goal.returns-then-are_full
returns-then-are_full c =
    let k = with_lot c.args.lot c.args.sheet.now c.in_ok-found.found (sym c.in_ok-found.ensures) in
    let decided = sym (ap undecided c.answer_to-answer.ensures) ∙ sym c.goes_on.ensures ∙ c.if-goes_on.false in
    rw (close_full _ _ _ k decided (sym c.are_full.ensures ∙ c.if-are_full.true)) (record { value = refl; sheet_after = refl })

pub remove_lot-requires : goal.remove_lot-requires
remove_lot-requires c =
    let k = with_lot c.args.lot c.args.sheet.now c.in_ok-found.found (sym c.in_ok-found.ensures) in
    rw c.answer_to-answer.ensures
    (close_requires _ _ _ k (sym c.are_full.ensures ∙ c.if-are_full.false))

pub returns-in_err-found : goal.returns-in_err-found
returns-in_err-found c =
    let p = err_from_is_err_and c.from_residual.result c.from_residual.ensures.1 in
    rw (p.1, p.2) (rw (close_refused c.args.lot c.args.sheet.now _ (sym c.in_err-found.ensures)) (record { value = refl; sheet_after = refl }))

pub returns : goal.returns
returns c =
    let k = with_lot c.args.lot c.args.sheet.now c.in_ok-found.found (sym c.in_ok-found.ensures) in
    let decided = sym (ap undecided c.answer_to-answer.ensures) ∙ sym c.goes_on.ensures ∙ c.if-goes_on.false in
    rw (close_granted _ _ _ k decided (sym c.are_full.ensures ∙ c.if-are_full.false)) (record { value = refl; sheet_after = c.remove_lot.ensures })
