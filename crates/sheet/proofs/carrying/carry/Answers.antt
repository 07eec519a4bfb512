-- `sheet::carry` meets its contract: behind the tests, the header and the records are all that is written. Assumes nothing.
use mathlib.Core.Path.{sym, ◌∙◌}
use native.Mathlib.Omega.{arith}
use Rattle.sheet.proofs.CarryOutcome.{written}
use Rattle.sheet.proofs.carrying.carry.Goals as goal

pub returns-clause-sheet_after : goal.returns-clause-sheet_after
returns-clause-sheet_after c =
    let a = c.args in
    let old_size = sym c.size_ok.ensures ∙ c.if-not-size_ok.false in
    let size = sym c.size_ok-else-not-size_ok.ensures ∙ c.if-not-size_ok-2.false in
    let intact = sym c.is_old_intact.ensures ∙ c.if-not-is_old_intact.false in
    let fit = sym c.given_shares_fit.ensures ∙ c.if-not-given_shares_fit.false in
    written a.old.now a.shares.now a.sheet.now old_size size intact fit (omega (arith, c.record_count.ensures)) c.told-shares _ _ c.put_header.ensures c.put_records.ensures
