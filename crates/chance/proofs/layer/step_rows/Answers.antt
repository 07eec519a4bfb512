-- The answers for `chance::step_rows`; Invariants.antt says what its loop goes by. Assumes nothing.
use native.Mathlib.Omega.{arith}
use Rattle.plan.proofs.Promise.{shape}
use Rattle.chance.proofs.Decisions.{weighs}
use Rattle.chance.proofs.InPlace.{ready_partly, rows_valued, rows_partly, plan_row, plan_open}
use Rattle.chance.proofs.layer.step_rows.Goals as goal

pub accept_limit-limit-requires : goal.accept_limit-limit-requires
accept_limit-limit-requires g c = omega (arith, shape c.args.plan.now c.requires.ready.suits.admitted)

pub step_row-requires-clause-valued : goal.step_row-requires-clause-valued
step_row-requires-clause-valued g c =
    let l = c.loop-g in rows_valued (ready_partly c.requires.ready) l.invariant.stepped l.invariant.same

pub step_row-requires-clause-g_lt_r1 : goal.step_row-requires-clause-g_lt_r1
step_row-requires-clause-g_lt_r1 g c =
    let limited = c.requires.limited in
    (omega (arith, limited.inside), omega (arith, limited.reached), (ready_partly c.requires.ready).thousand)

pub step_row-requires-clause-weighs : goal.step_row-requires-clause-weighs
step_row-requires-clause-weighs g c =
    let a = c.args in
    let l = c.loop-g in
    let ready = c.requires.ready in
    let limited = c.requires.limited in
    rw (l.invariant.limit_is, limited.reject_is)
    (weighs a.plan.now (g.M.Means.of a.means) ready.suits a.y l.g ready.units (omega (arith, limited.reached)) (omega (arith, limited.unrejected)))

pub next_limit-limit-requires-clause-in_plan : goal.next_limit-limit-requires-clause-in_plan
next_limit-limit-requires-clause-in_plan g c =
    let suits = c.requires.ready.suits in
    (suits.admitted, omega (arith, c.requires.limited.inside, suits.reject1, (shape c.args.plan.now suits.admitted).reject1_to))

pub open_rows-g-requires-clause-partly : goal.open_rows-g-requires-clause-partly
open_rows-g-requires-clause-partly g c =
    let row = c.step_row in
    let p = plan_row c.requires.ready c.requires.limited c.loop-g.invariant c.loop-g-test.true row.ensures row.auto.layer c.next_limit-limit.ensures in
    rows_partly (ready_partly c.requires.ready) p.stepped p.same (omega arith)

pub loop-g-preserved-then-limit-eq0 : goal.loop-g-preserved-then-limit-eq0
loop-g-preserved-then-limit-eq0 g c =
    let row = c.step_row in
    let p = plan_row c.requires.ready c.requires.limited c.loop-g.invariant c.loop-g-test.true row.ensures row.auto.layer c.next_limit-limit.ensures in
    let rows = c.open_rows-g in
    plan_open c.requires.ready c.requires.limited p c.if-limit-eq0.true rows.ensures.within.0 (omega (arith, rows.ensures.within, p.upto)) rows.ensures.stepped_rows rows.auto.layer

pub loop-g-preserved : goal.loop-g-preserved
loop-g-preserved g c =
    let row = c.step_row in
    plan_row c.requires.ready c.requires.limited c.loop-g.invariant c.loop-g-test.true row.ensures row.auto.layer c.next_limit-limit.ensures
