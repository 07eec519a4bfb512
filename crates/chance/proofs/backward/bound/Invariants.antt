-- `chance::bound` meets its contract: layer by layer, from S units down. Assumes nothing.
use Rattle.chance.specs.Layer.{Cleared}
use Rattle.chance.proofs.Induction.{LayersTo}
use Rattle.chance.proofs.backward.bound.Given as goal

abbrev pub invariant-loop-y : goal.invariant-loop-y
invariant-loop-y l = LayersTo l.plan l.s l.initial.layer l.layer l.y × Cleared l.s l.y l.later l.layer
