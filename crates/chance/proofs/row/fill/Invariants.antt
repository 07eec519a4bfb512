-- `chance::fill` meets its contract: the words before i are filled. Assumes nothing.
use Prim.Native.Nat.{◌≤◌, max}
use Rattle.chance.specs.Layer.{Filled}
use Rattle.chance.proofs.row.fill.Given as goal

abbrev pub invariant-loop-i : goal.invariant-loop-i
invariant-loop-i l = Filled l.from l.i l.value l.initial.layer l.layer × (l.i ≤ max l.from l.to)
