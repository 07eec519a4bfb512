-- `sheet::look` meets its contract. Assumes nothing.
use mathlib.Core.Path.{refl, sym}
use Rattle.std.proofs.lemmas.Result.{err_from_is_err_and}
use Rattle.sheet.proofs.LocatedFacts.{with_lot}
use Rattle.sheet.proofs.CallSteps.{answer_requires, few, look_refused, look_shown}
use Rattle.sheet.proofs.looking.look.Goals as goal

-- k: what is known where the lot is found

pub answer_to-requires : goal.answer_to-requires
answer_to-requires c =
    let k = with_lot c.args.lot c.args.sheet.now c.in_ok-found.found (sym c.in_ok-found.ensures) in
    answer_requires _ _ _ k

pub units-requires : goal.units-requires
units-requires c =
    let k = with_lot c.args.lot c.args.sheet.now c.in_ok-found.found (sym c.in_ok-found.ensures) in
    few _ _ _ k

pub returns-in_err-found : goal.returns-in_err-found
returns-in_err-found c =
    let p = err_from_is_err_and c.from_residual.result c.from_residual.ensures.1 in
    rw (p.1, p.2) (rw (look_refused c.args.lot c.args.sheet.now _ (sym c.in_err-found.ensures)) refl)

pub returns : goal.returns
returns c =
    let k = with_lot c.args.lot c.args.sheet.now c.in_ok-found.found (sym c.in_ok-found.ensures) in
    rw (look_shown _ _ _ k) (rw (c.units.ensures, c.answer_to.ensures) refl)
