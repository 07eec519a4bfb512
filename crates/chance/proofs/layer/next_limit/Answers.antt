-- `chance::next_limit` meets its contract: the limit does not rise. Assumes nothing.
use native.Mathlib.Omega.{arith}
use Rattle.plan.proofs.Promise.{promise}
use Rattle.chance.proofs.layer.next_limit.Goals as goal

pub returns-then-limit-eq0 : goal.returns-then-limit-eq0
returns-then-limit-eq0 c =
    let a = c.args in
    omega (arith, (promise a.plan.now c.requires.in_plan.0).limit_falls a.y a.g)
