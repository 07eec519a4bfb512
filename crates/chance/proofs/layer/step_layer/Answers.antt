-- `chance::step_layer` meets its contract: the rows that are not rejected, and those that are. Assumes nothing.
use Prim.Native.Nat.{min}
use mathlib.Core.Path.{ap, ◌∙◌}
use Rattle.plan.specs.declared.boundaries.Rejection.{Rejection}
use Rattle.chance.specs.Layer.{step_value, SteppedRows}
use Rattle.chance.proofs.InPlace.{rows_alike, layer_all}
use Rattle.chance.proofs.layer.step_layer.Goals as goal
use Rattle.chance.proofs.layer.step_layer.Goals.{in-Same, in-Left}

pub returns-clause-stepped_layer : goal.returns-clause-stepped_layer
returns-clause-stepped_layer c =
    let a = c.args in
    let nongood = ap (λ (r : Rejection). r.nongood) c.rejection_at-rejection.ensures in
    let rows = c.min-rows.ensures ∙ (λ i. min (nongood i) c.min-end.result) in
    let stepped : SteppedRows (step_value a.plan.now a.s a.y a.layer.now) a.s a.y 0 c.min-rows.result a.layer.now c.match-s.layer
    = elim c.match-s.branch [ in-Same w ↦ rows_alike a.plan.now w.of.ensures w.layer-is w.step_rows.ensures | in-Left w ↦ rows_alike a.plan.now w.at.ensures w.layer-is w.step_rows-in-Left.ensures ] in
    layer_all c.requires.ready c.min-end.ensures rows c.min.ensures c.requires.cleared stepped c.fill.ensures
