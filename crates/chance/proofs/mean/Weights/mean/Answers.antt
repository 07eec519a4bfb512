-- `Weights::mean` meets its contract: no product or sum is too large. Assumes nothing.
use Prim.Native.Nat.{ℕ, ◌+◌, ◌-◌, ◌*◌, ◌/◌, ◌≤◌}
use mathlib.Core.Path.{sym, ap, ◌∙◌}
use mathlib.Core.Bool.{cond}
use native.Mathlib.Omega.{arith}
use Rattle.chance.specs.Bounds.{weight_sum, weighted}
use Rattle.chance.proofs.Reciprocals.{scaled, scaled_fits}
use Rattle.chance.proofs.Rounding.{rounds}
use Rattle.chance.proofs.States.{products}
use Rattle.chance.proofs.mean.Weights.mean.Goals as goal

pub overflow_mul-sum-then-total-d : goal.overflow_mul-sum-then-total-d
overflow_mul-sum-then-total-d c =
    let a = c.args in
    let sum = weighted a.self a.v.good a.v.marginal a.v.bad + c.rounded_by.result in
    let few : sum ≤ a.d.by * 1099511627777 = omega (arith, products a.self a.v.most) in
    omega (arith, scaled_fits sum a.d 1099511627777 few)

pub quotient-requires : goal.quotient-requires
quotient-requires c =
    let a = c.args in
    let sum = weighted a.self a.v.good a.v.marginal a.v.bad + c.rounded_by.result in
    let few : sum ≤ a.d.by * 1099511627777 = omega (arith, products a.self a.v.most) in
    omega (arith, scaled_fits sum a.d 1099511627777 few)

pub returns-then-total-d : goal.returns-then-total-d
returns-then-total-d c =
    let a = c.args in
    let sum = weighted a.self a.v.good a.v.marginal a.v.bad in
    c.quotient.ensures ∙ scaled (sum + c.rounded_by.result) a.d
    ∙ (λ i. (sum + c.rounded_by.ensures.0 i) / sym c.if-total-d.true i)
    ∙ ap (λ (k : ℕ). (sum + cond a.up (k - 1) 0) / k) c.sum-total.ensures ∙ rounds a.up sum (weight_sum a.self)
