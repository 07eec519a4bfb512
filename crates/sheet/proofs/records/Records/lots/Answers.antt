-- `sheet::lots` meets its contract. Assumes nothing.
use Rattle.std.proofs.Common.{refl, ℕ, ◌≡◌, ◌+◌, ◌-◌, ◌≤◌, sym, ◌∙◌, arith}
use Rattle.plan.specs.Plan.{stages}
use Rattle.plan.specs.Counts.{units}
use Rattle.plan.proofs.Promise.{shape}
use Rattle.std.specs.Prelude.{Some, None}
use Rattle.sheetmodel.specs.Layout.{records}
use Rattle.sheetmodel.specs.Read.{serial_at, read_inspections, undecided_before}
use Rattle.sheet.specs.declared.record.Record.{Record}
use Rattle.sheet.specs.declared.records.Records.{Records}
use Rattle.sheet.specs.declared.chain.Chain.{Chain}
use Rattle.sheet.specs.Survey.{is_lot, chain_of}
use Rattle.sheet.proofs.Used.{passed, failed}
use Rattle.sheet.proofs.LotSteps.{no_lots, lot_read, no_lot, none_left, not_lot, next_lot, chain_units}
use Rattle.sheet.proofs.OfficeSteps.{count_start, count_one, count_done}
use Rattle.sheet.proofs.records.Records.lots.Goals as goal

-- a lot has no more units than a sample
few_units : (r : Records) (at : ℕ) (lot : Record) (v : Chain)
    → Some v ≡ chain_of (undecided_before (stages r.plan.now)) (read_inspections r.first r.sheet.now at (serial_at r.sheet.now lot.link) lot.link) → units v.counts ≤ 1000
few_units r at lot v e =
    omega (arith, (shape r.plan.now r.plan_admitted).thousand_units, chain_units r.first r.sheet.now at r.plan.now r.plan_admitted (serial_at r.sheet.now lot.link) lot.link v e)

pub loop-init : goal.loop-init
loop-init c =
    let all : c.record_count-end.result - 0 ≡ records c.args.self.sheet.now = omega arith in
    rw (c.none.ensures, c.requires, all) (omega arith, refl, count_start _)

pub returns-then-at-eq0-clause-value : goal.returns-then-at-eq0-clause-value
returns-then-at-eq0-clause-value c =
    let r = c.args.self in
    let l = c.loop in
    sym (l.invariant.1 ∙ no_lot r.first r.sheet.now (stages r.plan.now) c.args.sought l.found (c.record_count-end.result - l.counter) l.above l.at c.if-at-eq0.true)

pub returns-then-at-eq0-clause-counted : goal.returns-then-at-eq0-clause-counted
returns-then-at-eq0-clause-counted c =
    let r = c.args.self in
    let l = c.loop in
    count_done _ _ l.held l.found.used l.invariant.2 (no_lots r.first r.sheet.now (c.record_count-end.result - l.counter) l.above l.at c.if-at-eq0.true)

pub returns-in_err-r-clause-value : goal.returns-in_err-r-clause-value
returns-in_err-r-clause-value c =
    let r = c.args.self in
    let l = c.loop in
    rw c.from_residual.ensures
    (sym (l.invariant.1 ∙ not_lot r.first r.sheet.now (stages r.plan.now) c.args.sought l.found (c.record_count-end.result - l.counter) l.above l.at (omega arith) c.if-at-eq0.false
    (failed _ r.sheet.now l.at c.in_err-r.ensures)))

pub returns-in_err-chain-clause-value : goal.returns-in_err-chain-clause-value
returns-in_err-chain-clause-value c =
    let r = c.args.self in
    let l = c.loop in
    let lot = passed (is_lot r.first r.sheet.now l.above l.at) r.sheet.now l.at c.in_ok-r.r c.in_ok-r.ensures in
    rw c.from_residual-in_err-chain.ensures
    (sym (l.invariant.1 ∙ next_lot r.first r.sheet.now (stages r.plan.now) c.args.sought l.found (c.record_count-end.result - l.counter) l.above l.at (omega arith) c.if-at-eq0.false
    lot.0 c.in_ok-r.r lot.1 None c.in_err-chain.ensures))

pub units-requires : goal.units-requires
units-requires c = few_units c.args.self c.loop.at c.in_ok-r.r c.in_ok-chain.chain c.in_ok-chain.ensures

pub with_lot-found-requires : goal.with_lot-found-requires
with_lot-found-requires c =
    let few = few_units c.args.self c.loop.at c.in_ok-r.r c.in_ok-chain.chain c.in_ok-chain.ensures in
    (few, omega arith)

pub loop-preserved : goal.loop-preserved
loop-preserved c =
    let r = c.args.self in
    let l = c.loop in
    let lot = passed (is_lot r.first r.sheet.now l.above l.at) r.sheet.now l.at c.in_ok-r.r c.in_ok-r.ensures in
    let v = c.in_ok-chain.chain in
    let left : c.record_count-end.result - l.counter - 1 ≡ c.record_count-end.result - (l.counter + 1) = omega arith in
    let next = next_lot r.first r.sheet.now (stages r.plan.now) c.args.sought l.found (c.record_count-end.result - l.counter) l.above l.at (omega arith) c.if-at-eq0.false
    lot.0 c.in_ok-r.r lot.1 (Some v) c.in_ok-chain.ensures in
    let more = count_one _ _ _ l.held l.found.used c.in_ok-r.r.value (units v.counts) l.invariant.2
    (lot_read r.first r.sheet.now (stages r.plan.now) (c.record_count-end.result - l.counter) l.above l.at (omega arith) c.if-at-eq0.false lot.0 c.in_ok-r.r lot.1 v c.in_ok-chain.ensures) in
    rw (← left, c.with_lot-found.ensures, c.count_lot.ensures, c.units.ensures) (omega (arith, few_units r l.at c.in_ok-r.r v c.in_ok-chain.ensures), l.invariant.1 ∙ next, more)

pub returns-then-at-eq0-2-clause-value : goal.returns-then-at-eq0-2-clause-value
returns-then-at-eq0-2-clause-value c =
    let r = c.args.self in
    let l = c.loop in
    sym (l.invariant.1 ∙ no_lot r.first r.sheet.now (stages r.plan.now) c.args.sought l.found (c.record_count-end.result - l.counter) l.above l.at c.if-at-eq0-2.true)

pub returns-then-at-eq0-2-clause-counted : goal.returns-then-at-eq0-2-clause-counted
returns-then-at-eq0-2-clause-counted c =
    let r = c.args.self in
    let l = c.loop in
    count_done _ _ l.held l.found.used l.invariant.2 (no_lots r.first r.sheet.now (c.record_count-end.result - l.counter) l.above l.at c.if-at-eq0-2.true)

pub returns-clause-value : goal.returns-clause-value
returns-clause-value c =
    let r = c.args.self in
    let l = c.loop in
    let none : c.record_count-end.result - l.counter ≡ 0 = omega arith in
    sym (rw none at l.invariant.1 ∙ none_left r.first r.sheet.now (stages r.plan.now) c.args.sought l.found l.above l.at c.if-at-eq0-2.false)
