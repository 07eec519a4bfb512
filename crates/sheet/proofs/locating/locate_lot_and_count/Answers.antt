-- `sheet::locate_lot_and_count` meets its contract: no lot is in record 0. Assumes nothing.
use mathlib.Core.Path.{sym}
use Rattle.std.proofs.lemmas.Result.{err_from_is_err_and}
use Rattle.sheet.proofs.LocatedFacts.{still_refused, whole, not_there, there}
use Rattle.sheet.proofs.locating.locate_lot_and_count.Goals as goal

pub returns-then-found-eq0 : goal.returns-then-found-eq0
returns-then-found-eq0 c =
    let a = c.args in
    record {
      value = sym (not_there a.lot a.sheet.now c.in_ok-found.found (whole a.lot a.sheet.now c.in_ok-found.found (sym c.in_ok-found.ensures.value)) c.if-found-eq0.true);
      counted_on = tt;
    }

pub returns-in_err-found : goal.returns-in_err-found
returns-in_err-found c =
    let a = c.args in
    let p = err_from_is_err_and c.from_residual.result c.from_residual.ensures.1 in
    rw (p.1, p.2) (record {
      value = sym (still_refused a.lot a.sheet.now _ (sym c.in_err-found.ensures.value));
      counted_on = tt;
    })

pub returns : goal.returns
returns c =
    let a = c.args in record {
      value = sym (there a.lot a.sheet.now c.in_ok-found.found (whole a.lot a.sheet.now c.in_ok-found.found (sym c.in_ok-found.ensures.value)) c.if-found-eq0.false);
      counted_on = c.in_ok-found.ensures.counted_on;
    }
