-- `plan::admitted` meets its contract: the number of words, and then the rules. Assumes nothing.
use native.Mathlib.Omega.{arith}
use mathlib.Core.Path.{sym, ap, ◌∙◌}
use mathlib.Core.List.{List}
use lib.ListN.{length}
use Rattle.plan.specs.declared.stage.Stage.{Stage}
use Rattle.plan.specs.Plan.{rules}
use Rattle.plan.proofs.Stages.{stage_count}
use Rattle.plan.proofs.Whole.{not_whole, no_stage, too_long, by_rules}
use Rattle.plan.proofs.admission.admitted.Goals as goal

pub returns-then-plan-ne0 : goal.returns-then-plan-ne0
returns-then-plan-ne0 c = sym (not_whole c.args.plan.now c.if-plan-ne0.true)

pub returns-then-plan-gt35 : goal.returns-then-plan-gt35
returns-then-plan-gt35 c = sym (too_long c.args.plan.now c.if-plan-ne0.false (omega arith))

pub returns-in-Some : goal.returns-in-Some
returns-in-Some c =
    let w = c.args.plan.now in
    let is = c.in-Some.ensures.stages_are in
    let some = ap (λ (p : List Stage). length p) is in
    c.rules.ensures ∙ sym (ap (rules 0) is) ∙ sym (by_rules w c.if-plan-ne0.false (omega (arith, stage_count w)) (omega arith))

pub returns-in-None : goal.returns-in-None
returns-in-None c =
    let w = c.args.plan.now in
    let none = ap (λ (p : List Stage). length p) c.in-None.ensures in
    sym (no_stage w (omega (arith, stage_count w)))
