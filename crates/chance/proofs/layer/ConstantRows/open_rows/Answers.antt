-- The answers for `open_rows` with constant weights. Assumes nothing.
use Prim.Native.Nat.{ℕ}
use mathlib.Core.Path.{◌≡◌, refl, subst}
use native.Mathlib.Omega.{arith}
use Rattle.chance.specs.Layer.{open_value, SteppedRows}
use Rattle.chance.proofs.InPlace.{rows_none, rows_valued, rows_more}
use Rattle.chance.proofs.layer.ConstantRows.open_rows.Goals as goal

pub loop-g-init : goal.loop-g-init
loop-g-init c = (rows_none c.requires.partly, omega arith)

pub open_row-requires-clause-valued : goal.open_row-requires-clause-valued
open_row-requires-clause-valued c = rows_valued c.requires.partly c.loop-g.invariant.0 c.loop-g.auto.layer

pub loop-g-preserved : goal.loop-g-preserved
loop-g-preserved c = (rows_more c.requires.partly c.loop-g.invariant.0 (omega arith) c.open_row.ensures (λ b h m. refl), omega arith)

pub returns-clause-stepped_rows : goal.returns-clause-stepped_rows
returns-clause-stepped_rows c =
    let a = c.args in
    let end : c.loop-g.g ≡ c.max.result = omega (arith, c.loop-g.invariant.1) in
    subst (λ (n : ℕ). SteppedRows (open_value a.self.setting a.y a.reject a.layer.now) a.self.setting a.y a.first n a.layer.now c.loop-g.layer) end c.loop-g.invariant.0
