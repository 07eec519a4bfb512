-- The numbers of an estimate in decimal.
use Rattle.std.specs.Prelude.{ℕ, List, decimal}
use Rattle.plan.specs.Printed.{spaced}
use Rattle.sheetmodel.specs.declared.reply.Estimate.{Estimate}

abbrev pub estimate_printed : Estimate → List ℕ
estimate_printed e = spaced (decimal e.good) (spaced (decimal e.marginal) (spaced (decimal e.bad) (decimal e.over)))
