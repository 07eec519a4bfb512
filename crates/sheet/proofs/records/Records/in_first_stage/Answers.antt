-- `sheet::in_first_stage` meets its contract: as `inspections`, with one test. Assumes nothing.
use Rattle.std.proofs.Common.{sym, ◌∙◌}
use Rattle.plan.specs.Plan.{stages}
use Rattle.std.specs.Prelude.{Some, None}
use Rattle.sheet.proofs.ChainSteps.{cut, by_parts, few}
use Rattle.sheet.proofs.records.Records.in_first_stage.Goals as goal

pub returns-in_err-newer : goal.returns-in_err-newer
returns-in_err-newer c =
    let r = c.args.self in
    rw c.from_residual.ensures (sym (cut r.first r.sheet.now c.args.lot (stages r.plan.now) c.args.test c.args.serial c.args.at c.requires.2 c.in_err-newer.ensures))

pub returns-in_err-older : goal.returns-in_err-older
returns-in_err-older c =
    let r = c.args.self in
    rw c.from_residual-in_err-older.ensures
    (sym (by_parts r.first r.sheet.now c.args.lot (stages r.plan.now) c.args.test c.args.serial c.args.at c.requires.2 _ c.in_ok-newer.ensures 0 c.requires.3 None c.in_err-older.ensures))

pub joined-requires : goal.joined-requires
joined-requires c =
    let r = c.args.self in
    few r.first r.sheet.now c.args.lot (stages r.plan.now) c.args.test c.args.serial c.args.at c.requires.2 _ c.in_ok-newer.ensures 0 _ c.requires.0 c.in_ok-older.ensures

pub returns : goal.returns
returns c =
    let r = c.args.self in
    c.joined.ensures ∙
    sym (by_parts r.first r.sheet.now c.args.lot (stages r.plan.now) c.args.test c.args.serial c.args.at c.requires.2 _ c.in_ok-newer.ensures 0 c.requires.3 (Some c.in_ok-older.older) c.in_ok-older.ensures)
