-- With one stage, by the limit, or sooner.
use Prim.Native.Nat.{ℕ}
use native.Mathlib.Omega.{arith}
use mathlib.Core.Path.{ap, ◌∙◌}
use Rattle.plan.specs.Plan.{stages}
use Rattle.plan.specs.Counts.{nongood}
use Rattle.plan.specs.Boundaries.{accept_limit}
use Rattle.plan.proofs.Promise.{shape}
use Rattle.judge.proofs.FromFull.{earliest_between, earliest_with_full}
use Rattle.judge.proofs.Laws.{stop_laws}
use Rattle.judge.proofs.case.Case.earliest_stop.Goals as goal

pub returns-then-self-eq5 : goal.returns-then-self-eq5
returns-then-self-eq5 c =
    let k = c.args.self.now in
    c.requires.full_stop ∙ (stop_laws k.plan.now k.list.now k.admitted).one_stage c.if-self-eq5.true

pub returns-then-accept_limit-before : goal.returns-then-accept_limit-before
returns-then-accept_limit-before c =
    let k = c.args.self.now in
    let b = c.args.before in
    let limit_is = c.accept_limit.ensures ∙ ap (λ (n : ℕ). accept_limit 0 (stages k.plan.now) n
    (nongood b)) c.units-end.ensures in
    earliest_with_full k.plan.now k.admitted k.list.now c.args.full c.requires.full_stop k.classes b c.requires.before_full
    (omega (arith, limit_is, c.if-accept_limit-before.true))

pub before_stop-sooner-requires : goal.before_stop-sooner-requires
before_stop-sooner-requires c =
    let k = c.args.self.now in
    let b = c.args.before in
    let limit_is = c.accept_limit.ensures ∙ ap (λ (n : ℕ). accept_limit 0 (stages k.plan.now) n
    (nongood b)) c.units-end.ensures in
    rw c.units-end.ensures
    (earliest_between k.plan.now k.admitted k.list.now c.args.full c.requires.full_stop b c.requires.before_full _ c.none.ensures
    (omega (arith, limit_is, c.if-accept_limit-before.false)))

pub accept_limit-requires : goal.accept_limit-requires
accept_limit-requires c =
    let k = c.args.self.now in
    omega (arith, (shape k.plan.now k.admitted).thousand_units, c.requires.before_full.thousand)
