-- The answers for `chance::step_fours`; Invariants.antt says what its loop goes by. Assumes nothing.
use Prim.Native.Nat.{◌+◌, ◌-◌}
use native.Mathlib.Omega.{arith}
use Rattle.chance.proofs.InRow.{further_nothing, further_all, legible, state_more, fours, four_left, four_less}
use Rattle.chance.proofs.row.step_fours.Goals as goal

pub returns-then-to-from : goal.returns-then-to-from
returns-then-to-from c = further_nothing c.if-to-from.true

pub loop-b-init : goal.loop-b-init
loop-b-init c = let a = c.args in (c.odd_states-bad.ensures, omega arith, fours a.from a.to (omega arith))

pub state-third-requires : goal.state-third-requires
state-third-requires c =
    let t = c.args.t in
    let b = c.loop-b.b - 4 in
    let v = c.requires.valued in
    let m = c.requires.between in
    let n = c.requires.g_bound in
    let p = c.loop-b.invariant.0 in
    let four = four_left c.args.from c.loop-b.b c.loop-b-test.true c.loop-b.invariant.2 in
    legible t v m n p (b + 3) (omega (arith, four))

pub state-second-requires : goal.state-second-requires
state-second-requires c =
    let t = c.args.t in
    let b = c.loop-b.b - 4 in
    let v = c.requires.valued in
    let m = c.requires.between in
    let n = c.requires.g_bound in
    let p = c.loop-b.invariant.0 in
    let four = four_left c.args.from c.loop-b.b c.loop-b-test.true c.loop-b.invariant.2 in
    let p3 = state_more t v m n p (b + 3) (omega (arith, four)) (omega (arith, four)) c.state-third.ensures in
    legible t v m n p3 (b + 2) (omega arith)

pub state-first-requires : goal.state-first-requires
state-first-requires c =
    let t = c.args.t in
    let b = c.loop-b.b - 4 in
    let v = c.requires.valued in
    let m = c.requires.between in
    let n = c.requires.g_bound in
    let p = c.loop-b.invariant.0 in
    let four = four_left c.args.from c.loop-b.b c.loop-b-test.true c.loop-b.invariant.2 in
    let p3 = state_more t v m n p (b + 3) (omega (arith, four)) (omega (arith, four)) c.state-third.ensures in
    let p2 = state_more t v m n p3 (b + 2) (omega arith) (omega (arith, four)) c.state-second.ensures in
    legible t v m n p2 (b + 1) (omega arith)

pub state-bad-requires : goal.state-bad-requires
state-bad-requires c =
    let t = c.args.t in
    let b = c.loop-b.b - 4 in
    let v = c.requires.valued in
    let m = c.requires.between in
    let n = c.requires.g_bound in
    let p = c.loop-b.invariant.0 in
    let four = four_left c.args.from c.loop-b.b c.loop-b-test.true c.loop-b.invariant.2 in
    let p3 = state_more t v m n p (b + 3) (omega (arith, four)) (omega (arith, four)) c.state-third.ensures in
    let p2 = state_more t v m n p3 (b + 2) (omega arith) (omega (arith, four)) c.state-second.ensures in
    let p1 = state_more t v m n p2 (b + 1) (omega arith) (omega (arith, four)) c.state-first.ensures in
    legible t v m n p1 b (omega arith)

pub loop-b-preserved : goal.loop-b-preserved
loop-b-preserved c =
    let t = c.args.t in
    let b = c.loop-b.b - 4 in
    let v = c.requires.valued in
    let m = c.requires.between in
    let n = c.requires.g_bound in
    let p = c.loop-b.invariant.0 in
    let four = four_left c.args.from c.loop-b.b c.loop-b-test.true c.loop-b.invariant.2 in
    let p3 = state_more t v m n p (b + 3) (omega (arith, four)) (omega (arith, four)) c.state-third.ensures in
    let p2 = state_more t v m n p3 (b + 2) (omega arith) (omega (arith, four)) c.state-second.ensures in
    let p1 = state_more t v m n p2 (b + 1) (omega arith) (omega (arith, four)) c.state-first.ensures in (
      state_more t v m n p1 b (omega arith) (omega (arith, four)) c.state-bad.ensures,
      omega (arith, four),
      four_less c.args.from c.loop-b.b four c.loop-b.invariant.2,
    )

pub returns : goal.returns
returns c = further_all c.loop-b.invariant.0 (omega arith)
