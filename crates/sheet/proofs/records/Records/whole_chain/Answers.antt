-- `sheet::whole_chain` meets its contract: before the first unit every lot is undecided. Assumes nothing.
use Rattle.std.proofs.Common.{refl, sym, ◌∙◌}
use Rattle.plan.specs.Plan.{stages}
use Rattle.plan.proofs.Promise.{promise}
use Rattle.sheet.proofs.ChainSteps.{cut, no_older}
use Rattle.sheet.proofs.records.Records.whole_chain.Goals as goal

pub returns-in_err-newer_part : goal.returns-in_err-newer_part
returns-in_err-newer_part c =
    let r = c.args.self in
    rw c.from_residual.ensures (sym (cut r.first r.sheet.now c.args.lot (stages r.plan.now) 0 c.args.serial c.args.at c.requires.1 c.in_err-newer_part.ensures))

pub returns : goal.returns
returns c =
    let r = c.args.self in
    c.ended.ensures ∙ sym (no_older r.first r.sheet.now c.args.lot (stages r.plan.now) 0 c.args.serial c.args.at c.requires.1 _ c.in_ok-newer_part.ensures
    (promise r.plan.now r.plan_admitted).empty refl)
