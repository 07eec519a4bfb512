-- Rows with constant weights and no accepted state: those before g are done. Assumes nothing.
use Prim.Native.Nat.{◌≤◌, max}
use Rattle.chance.specs.Layer.{open_value, SteppedRows}
use Rattle.chance.proofs.layer.ConstantRows.open_rows.Given as goal

abbrev pub invariant-loop-g : goal.invariant-loop-g
invariant-loop-g l =
    SteppedRows (open_value l.self.setting l.y l.reject l.initial.layer) l.self.setting l.y l.first l.g l.initial.layer l.layer × (l.g ≤ max l.first l.end)
