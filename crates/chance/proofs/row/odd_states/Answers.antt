-- The answers for `chance::odd_states`; Invariants.antt says what its loop goes by. Assumes nothing.
use Prim.Native.Nat.{ℕ, ◌-◌, ◌≤◌}
use mathlib.Core.Path.{subst}
use native.Mathlib.Omega.{arith}
use Rattle.chance.specs.Layer.{FurtherTo}
use Rattle.chance.proofs.InRow.{legible, state_more, odd_some, odd_less, odd_none}
use Rattle.chance.proofs.row.odd_states.Goals as goal

pub state-bad-requires : goal.state-bad-requires
state-bad-requires c =
    let l = c.loop-b in
    let some = odd_some c.args.from l.b l.invariant.1 c.loop-b-test.true in
    legible c.args.t c.requires.valued c.requires.between c.requires.g_bound.0 l.invariant.0 (l.b - 1) (omega (arith, some))

pub loop-b-preserved : goal.loop-b-preserved
loop-b-preserved c =
    let a = c.args in
    let l = c.loop-b in
    let some = odd_some a.from l.b l.invariant.1 c.loop-b-test.true in
    let below : a.from ≤ l.b - 1 = omega (arith, some) in (
      state_more a.t c.requires.valued c.requires.between c.requires.g_bound.0 l.invariant.0 (l.b - 1) (omega (arith, some)) below c.state-bad.ensures,
      below,
      odd_less a.from a.to l.b l.invariant.1 l.invariant.0.at_most l.invariant.2 c.loop-b-test.true,
    )

pub returns : goal.returns
returns c =
    let a = c.args in
    let l = c.loop-b in
    subst (λ (n : ℕ). FurtherTo a.t.setting a.y a.g a.from a.to a.layer.now l.layer l.bad n)
    (odd_none a.from a.to l.b l.invariant.1 l.invariant.0.at_most l.invariant.2 c.loop-b-test.false) l.invariant.0
