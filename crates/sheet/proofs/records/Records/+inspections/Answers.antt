-- `sheet::inspections` meets its contract; Invariants.antt says what it recurses on. Assumes nothing.
use Rattle.std.proofs.Common.{arith, sym, ◌∙◌}
use Rattle.plan.specs.Plan.{stages}
use Rattle.plan.proofs.Promise.{promise, shape}
use Rattle.std.specs.Prelude.{Some, None}
use Rattle.sheet.proofs.ChainSteps.{cut, by_parts, few, no_older}
use Rattle.sheet.proofs.records.Records.+inspections.Goals as goal

pub returns-in_err-newer : goal.returns-in_err-newer
returns-in_err-newer t c =
    let r = c.args.self in
    rw c.from_residual.ensures (sym (cut r.first r.sheet.now c.args.lot (stages r.plan.now) c.args.test c.args.serial c.args.at c.requires.1 c.in_err-newer.ensures))

pub returns-then-test-eq0 : goal.returns-then-test-eq0
returns-then-test-eq0 t c =
    let r = c.args.self in
    c.ended.ensures ∙ sym (no_older r.first r.sheet.now c.args.lot (stages r.plan.now) c.args.test c.args.serial c.args.at c.requires.1 _ c.in_ok-newer.ensures
    (promise r.plan.now r.plan_admitted).empty c.if-test-eq0.true)

pub end_below-below-requires : goal.end_below-below-requires
end_below-below-requires t c = omega (arith, (shape c.args.self.plan.now c.args.self.plan_admitted).thousand_units)

pub inspections-requires : goal.inspections-requires
inspections-requires t c =
    (omega arith, (omega arith, omega (arith, c.end_below-below.ensures, ((promise c.args.self.plan.now c.args.self.plan_admitted).end_below_is c.args.test (omega arith)).0)))

pub returns-in_err-older : goal.returns-in_err-older
returns-in_err-older t c =
    let r = c.args.self in
    rw c.from_residual-in_err-older.ensures
    (sym (by_parts r.first r.sheet.now c.args.lot (stages r.plan.now) c.args.test c.args.serial c.args.at c.requires.1 _ c.in_ok-newer.ensures _ c.end_below-below.ensures None c.in_err-older.ensures))

pub joined-requires : goal.joined-requires
joined-requires t c =
    let r = c.args.self in
    few r.first r.sheet.now c.args.lot (stages r.plan.now) c.args.test c.args.serial c.args.at c.requires.1 _ c.in_ok-newer.ensures c.end_below-below.result _ c.requires.0 c.in_ok-older.ensures

pub returns : goal.returns
returns t c =
    let r = c.args.self in
    c.joined.ensures ∙
    sym (by_parts r.first r.sheet.now c.args.lot (stages r.plan.now) c.args.test c.args.serial c.args.at c.requires.1 _ c.in_ok-newer.ensures _ c.end_below-below.ensures (Some c.in_ok-older.older) c.in_ok-older.ensures)
