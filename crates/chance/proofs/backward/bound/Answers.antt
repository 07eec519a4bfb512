-- The answers for `chance::bound`; Invariants.antt says what its loop goes by. Assumes nothing.
use Prim.Native.Nat.{◌+◌, ◌-◌}
use mathlib.Core.Path.{◌≡◌, subst}
use native.Mathlib.Omega.{arith}
use Rattle.plan.proofs.Promise.{shape}
use Rattle.chance.proofs.States.{inside}
use Rattle.chance.proofs.InPlace.{cleared_after}
use Rattle.chance.proofs.Induction.{LayersTo, layers_none, layer_ready, layers_more, layers_all}
use Rattle.chance.proofs.backward.bound.Goals as goal

pub sample_size-requires : goal.sample_size-requires
sample_size-requires c = (shape c.args.plan.now c.requires.suits.admitted).thousand_units

pub loop-y-init : goal.loop-y-init
loop-y-init c =
    (layers_none c.requires.suits (λ i h. c.fill.ensures.done i (omega arith) h) (omega arith), λ g b h m l k n. absurd (omega arith))

pub step_layer-later-requires-clause-ready : goal.step_layer-later-requires-clause-ready
step_layer-later-requires-clause-ready c =
    layer_ready c.requires.suits c.loop-y.invariant.0 (omega arith) (omega (arith, c.fill.auto.layer, c.requires.room))

pub loop-y-preserved : goal.loop-y-preserved
loop-y-preserved c =
    let stepped = c.step_layer-later in
    let one : c.loop-y.y ≡ c.loop-y.y - 1 + 1 = omega arith in
    let ready = layer_ready c.requires.suits c.loop-y.invariant.0 one (omega (arith, c.fill.auto.layer, c.requires.room)) in
    (layers_more c.requires.suits c.loop-y.invariant.0 one stepped.ensures.stepped_layer stepped.auto.layer, cleared_after ready stepped.ensures.stepped_layer stepped.ensures.value)

pub bounds-layer-0 : goal.bounds-layer-0
bounds-layer-0 c =
    let s = c.args.s in
    let suits = c.requires.suits in
    let shaped = shape c.args.plan.now suits.admitted in
    omega (
      arith,
      c.loop-y.invariant.0.same,
      c.fill.auto.layer,
      c.requires.room,
      inside s.r1 s.r2 0 0 (omega (arith, suits.reject1, shaped.reject1_from)) (omega (arith, suits.reject2, shaped.reject2_from)),
    )

pub returns-clause-value : goal.returns-clause-value
returns-clause-value c =
    let a = c.args in
    let l = c.loop-y in
    let e : l.y ≡ 0 = omega arith in
    layers_all c.requires.suits (subst (LayersTo a.plan.now a.s c.fill.new.layer l.layer) e l.invariant.0)
