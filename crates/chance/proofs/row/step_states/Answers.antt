-- The answers for `chance::step_states`; Invariants.antt says what its loop goes by. Assumes nothing.
use native.Mathlib.Omega.{arith}
use Rattle.chance.proofs.InRow.{further_all, values_most, value_more}
use Rattle.chance.proofs.row.step_states.Goals as goal

pub invariant_of-v : goal.invariant_of-v
invariant_of-v g c =
    record { most = values_most c.setting-s.ensures c.loop-b.invariant (omega arith) c.requires.valued c.requires.between c.value_at-marginal.ensures }

pub loop-b-preserved : goal.loop-b-preserved
loop-b-preserved g c =
    value_more c.setting-s.ensures c.loop-b.invariant (omega arith) c.requires.valued c.requires.between c.value_at-marginal.ensures c.value.ensures

pub returns : goal.returns
returns g c = further_all c.loop-b.invariant (omega arith)
