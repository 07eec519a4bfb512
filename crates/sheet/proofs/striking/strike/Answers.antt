-- `sheet::strike` meets its contract: the tests are in the order of the table. Assumes nothing.
use mathlib.Core.Path.{refl, sym, ◌∙◌}
use Rattle.std.proofs.lemmas.Result.{err_from_is_err_and}
use Rattle.sheet.proofs.LocatedFacts.{with_lot}
use Rattle.sheet.proofs.CallSteps.{few, strike_refused, strike_none, strike_requires, strike_granted}
use Rattle.sheet.proofs.striking.strike.Goals as goal

-- k: what is known where the lot is found

pub units-requires : goal.units-requires
units-requires c =
    let k = with_lot c.args.lot c.args.sheet.now c.in_ok-found.found (sym c.in_ok-found.ensures) in
    few _ _ _ k

pub returns-then-units-eq0 : goal.returns-then-units-eq0
returns-then-units-eq0 c =
    let k = with_lot c.args.lot c.args.sheet.now c.in_ok-found.found (sym c.in_ok-found.ensures) in
    rw (strike_none _ _ _ k (sym c.units.ensures ∙ c.if-units-eq0.true)) (record { value = refl; sheet_after = refl })

pub remove_newest-requires : goal.remove_newest-requires
remove_newest-requires c =
    let k = with_lot c.args.lot c.args.sheet.now c.in_ok-found.found (sym c.in_ok-found.ensures) in
    strike_requires _ _ _ k (λ e. c.if-units-eq0.false (c.units.ensures ∙ e))

pub returns-in_err-found : goal.returns-in_err-found
returns-in_err-found c =
    let p = err_from_is_err_and c.from_residual.result c.from_residual.ensures.1 in
    rw (p.1, p.2) (rw (strike_refused c.args.lot c.args.sheet.now _ (sym c.in_err-found.ensures)) (record { value = refl; sheet_after = refl }))

pub returns : goal.returns
returns c =
    let k = with_lot c.args.lot c.args.sheet.now c.in_ok-found.found (sym c.in_ok-found.ensures) in
    rw (strike_granted _ _ _ k (λ e. c.if-units-eq0.false (c.units.ensures ∙ e))) (record { value = refl; sheet_after = c.remove_newest.ensures })
