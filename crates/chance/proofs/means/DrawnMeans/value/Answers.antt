-- `value` with any weights meets its contract: no cost and mean are too large. Assumes nothing.
use native.Mathlib.Omega.{arith}
use Rattle.chance.specs.Layer.{rounding}
use Rattle.chance.proofs.States.{mean_at_most}
use Rattle.chance.proofs.means.DrawnMeans.value.Goals as goal

pub overflow_add-result : goal.overflow_add-result
overflow_add-result c =
    let s = c.args.self.setting in
    omega (arith, mean_at_most c.weights_at.result c.args.v.most (rounding s.up), c.mean.ensures, s.worth.fits)
