-- `sheet::tally` meets its contract: the totals are words of the header. Assumes nothing.
use mathlib.Core.Path.{refl, sym}
use native.Mathlib.Omega.{arith}
use Rattle.std.proofs.lemmas.Result.{err_from_is_err_and}
use Rattle.sheet.proofs.Sizes.{long_enough}
use Rattle.sheet.proofs.LocatedFacts.{whole}
use Rattle.sheet.proofs.CallSteps.{tally_refused, tally_shown}
use Rattle.sheet.proofs.looking.tally.Goals as goal

pub returns-in_err-locate : goal.returns-in_err-locate
returns-in_err-locate c =
    let p = err_from_is_err_and c.from_residual.result c.from_residual.ensures.1 in
    rw (p.1, p.2) (rw (tally_refused 0 c.args.sheet.now _ (sym c.in_err-locate.ensures)) refl)

pub returns : goal.returns
returns c = rw (tally_shown 0 c.args.sheet.now _ (whole 0 c.args.sheet.now _ (sym c.in_ok-locate.ensures))) refl

pub bounds-sheet-39 : goal.bounds-sheet-39
bounds-sheet-39 c = omega (arith, long_enough c.args.sheet.now (whole 0 c.args.sheet.now _ (sym c.in_ok-locate.ensures)).size)

pub bounds-sheet-40 : goal.bounds-sheet-40
bounds-sheet-40 c = omega (arith, long_enough c.args.sheet.now (whole 0 c.args.sheet.now _ (sym c.in_ok-locate.ensures)).size)

pub bounds-sheet-41 : goal.bounds-sheet-41
bounds-sheet-41 c = omega (arith, long_enough c.args.sheet.now (whole 0 c.args.sheet.now _ (sym c.in_ok-locate.ensures)).size)

pub bounds-sheet-42 : goal.bounds-sheet-42
bounds-sheet-42 c = omega (arith, long_enough c.args.sheet.now (whole 0 c.args.sheet.now _ (sym c.in_ok-locate.ensures)).size)

pub bounds-sheet-43 : goal.bounds-sheet-43
bounds-sheet-43 c = omega (arith, long_enough c.args.sheet.now (whole 0 c.args.sheet.now _ (sym c.in_ok-locate.ensures)).size)
