-- `sheet::shares_fit` meets its contract. Assumes nothing.
use mathlib.Core.Path.{◌∙◌}
use native.Mathlib.Omega.{arith}
use Rattle.sheetmodel.specs.Layout.{shares_start, offices}
use Rattle.sheetmodel.specs.Offices.{shares_fit}
use Rattle.sheet.proofs.WordSums.{part_sum}
use Rattle.sheet.proofs.size.Sheet.shares_fit.Goals as goal

pub returns : goal.returns
unfolding shares_fit
returns c =
    c.has_records.ensures ∙ rw (c.sum_of.ensures, part_sum c.args.self.words.now shares_start offices (omega (arith, c.args.self.long)))
