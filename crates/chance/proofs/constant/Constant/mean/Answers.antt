-- `Constant::mean` meets its contract. Assumes nothing.
use mathlib.Core.Path.{◌∙◌}
use native.Mathlib.Omega.{arith}
use Rattle.chance.proofs.TwoProducts.{blended}
use Rattle.chance.proofs.constant.Constant.mean.Goals as goal

pub overflow_mul-sum : goal.overflow_mul-sum
overflow_mul-sum c = omega (arith, (blended c.args.self c.args.v.most).fits)

pub overflow_mul-sum-2 : goal.overflow_mul-sum-2
overflow_mul-sum-2 c = omega (arith, (blended c.args.self c.args.v.most).fits)

pub overflow_add-sum-3 : goal.overflow_add-sum-3
overflow_add-sum-3 c = omega (arith, (blended c.args.self c.args.v.most).fits)

pub overflow_add-sum-4 : goal.overflow_add-sum-4
overflow_add-sum-4 c = omega (arith, (blended c.args.self c.args.v.most).fits)

pub quotient-requires : goal.quotient-requires
quotient-requires c = omega (arith, (blended c.args.self c.args.v.most).fits)

pub overflow_sub-result : goal.overflow_sub-result
overflow_sub-result c = omega (arith, c.quotient.ensures ∙ (blended c.args.self c.args.v.most).value)

pub returns : goal.returns
returns c = omega (arith, c.quotient.ensures ∙ (blended c.args.self c.args.v.most).value)
