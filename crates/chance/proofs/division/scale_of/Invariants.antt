-- `chance::scale_of` meets its contract. Assumes nothing.
use Prim.Native.Nat.{◌-◌, ◌*◌, ◌≤◌, ◌<◌}
use Rattle.chance.proofs.division.scale_of.Given as goal

abbrev pub invariant-loop-scale : goal.invariant-loop-scale
invariant-loop-scale l = (0 < l.by * l.scale) × (l.by * l.scale ≤ 1048576)

abbrev pub decreases-loop-scale : goal.decreases-loop-scale
decreases-loop-scale l = 1048576 - l.by * l.scale
