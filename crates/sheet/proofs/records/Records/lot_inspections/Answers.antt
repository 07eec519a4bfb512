-- `sheet::lot_inspections` meets its contract: no inspection, a damaged newest one, a serial that no lot can have, or the walk.
-- Assumes nothing.
use Rattle.std.proofs.Common.{refl, arith, sym, ◌∙◌, inl, inr}
use Rattle.plan.specs.Plan.{stages}
use Rattle.plan.proofs.Promise.{shape}
use Rattle.sheet.proofs.LotSteps.{no_inspection, not_used, no_such_serial, by_serial}
use Rattle.sheet.proofs.records.Records.lot_inspections.Goals as goal
use Rattle.sheet.proofs.records.Records.lot_inspections.Goals.{then-serial-eq0-via-then-serial-eq0, then-serial-eq0-via-else-serial-eq0+then-self-serial}

pub returns-then-newest-eq0 : goal.returns-then-newest-eq0
returns-then-newest-eq0 c =
    let r = c.args.self in
    rw c.none.ensures (sym (no_inspection r.first r.sheet.now c.args.lot (stages r.plan.now) c.args.newest c.if-newest-eq0.true))

pub returns-then-not-is_used : goal.returns-then-not-is_used
returns-then-not-is_used c =
    let r = c.args.self in
    sym (not_used r.first r.sheet.now c.args.lot (stages r.plan.now) c.args.newest c.if-newest-eq0.false (sym c.is_used.ensures ∙ c.if-not-is_used.true))

pub returns-then-serial-eq0 : goal.returns-then-serial-eq0
returns-then-serial-eq0 c =
    let r = c.args.self in
    let f = c.field_of-serial in
    no_such_serial r.first r.sheet.now c.args.lot r.plan.now r.plan_admitted c.args.newest c.if-newest-eq0.false f.result f.ensures
    (elim c.then-serial-eq0.branch [ then-serial-eq0-via-then-serial-eq0 w ↦ inl w.if-serial-eq0.true | then-serial-eq0-via-else-serial-eq0+then-self-serial w ↦ inr (omega (arith, r.most_is)) ])

pub returns-then-serial-eq1 : goal.returns-then-serial-eq1
returns-then-serial-eq1 c =
    let r = c.args.self in
    let f = c.field_of-serial in
    by_serial r.first r.sheet.now c.args.lot r.plan.now r.plan_admitted c.args.newest c.if-newest-eq0.false f.result f.ensures 0 (omega arith) _ c.whole_chain.ensures

pub end_below-requires : goal.end_below-requires
end_below-requires c = omega (arith, (shape c.args.self.plan.now c.args.self.plan_admitted).thousand_units)

pub in_first_stage-requires : goal.in_first_stage-requires
in_first_stage-requires c =
    let high = (shape c.args.self.plan.now c.args.self.plan_admitted).thousand_units in
    (omega (arith, c.args.self.most_is), omega arith, omega arith, sym c.if-end_below-eq0.true ∙ c.end_below.ensures)

pub returns-then-end_below-eq0 : goal.returns-then-end_below-eq0
returns-then-end_below-eq0 c =
    let r = c.args.self in
    let f = c.field_of-serial in
    by_serial r.first r.sheet.now c.args.lot r.plan.now r.plan_admitted c.args.newest c.if-newest-eq0.false f.result f.ensures _ refl _ c.in_first_stage.ensures

pub inspections-requires : goal.inspections-requires
inspections-requires c =
    let high = (shape c.args.self.plan.now c.args.self.plan_admitted).thousand_units in
    (omega (arith, c.args.self.most_is), omega arith)

pub returns : goal.returns
returns c =
    let r = c.args.self in
    let f = c.field_of-serial in
    by_serial r.first r.sheet.now c.args.lot r.plan.now r.plan_admitted c.args.newest c.if-newest-eq0.false f.result f.ensures _ refl _ c.inspections.ensures
