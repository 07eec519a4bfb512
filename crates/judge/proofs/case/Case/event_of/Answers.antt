-- A plan of one stage has these numbers.
use Rattle.plan.proofs.Promise.{one_stage}
use Rattle.judge.proofs.case.Case.event_of.Goals as goal

pub event_at-requires : goal.event_at-requires
event_at-requires c =
    let n = one_stage c.args.self.now.plan.now c.args.self.now.admitted c.if-plan-ne5.false in
    (n.rows, n.within, n.thousand, c.requires)
