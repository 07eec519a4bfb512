-- `chance::units_chart` meets its contract: the bounds that are granted, each divided by 2^30, or the refusal. The divisor's literal is
-- the float 2^30, which `of_bits` computes. Assumes nothing.
use mathlib.Core.Path.{ap}
use lib.ListN.{length}
use lib.Ieee.{of_bits}
use borrow.Author.Rules.{rules}
use Rattle.std.specs.declared.result.Result.TheVariants.{Ok}
use Rattle.chance.specs.Reply.{weights_of}
use Rattle.chance.proofs.UnitsReplies.{units_chart_exact, units_chart_fits}
use Rattle.chance.proofs.charting.units_chart.Goals as goal

pub returns-in_err-bounds-clause-value : goal.returns-in_err-bounds-clause-value
returns-in_err-bounds-clause-value c =
    let a = c.args in (units_chart_exact a.plan.now (weights_of a.w0 a.w1 a.w2) (length a.scratch.now) c.in_err-bounds.ensures.value (search rules)).0

pub fractions-requires : goal.fractions-requires
fractions-requires c = let a = c.args in units_chart_fits a.plan.now (weights_of a.w0 a.w1 a.w2) (length a.scratch.now) c.in_ok-bounds.ensures.value

pub returns-clause-value : goal.returns-clause-value
unfolding of_bits
returns-clause-value c =
    let a = c.args in (units_chart_exact a.plan.now (weights_of a.w0 a.w1 a.w2) (length a.scratch.now) c.in_ok-bounds.ensures.value (ap Ok c.fractions.ensures)).0

pub returns-clause-exact_units_chart : goal.returns-clause-exact_units_chart
unfolding of_bits
returns-clause-exact_units_chart c =
    let a = c.args in (units_chart_exact a.plan.now (weights_of a.w0 a.w1 a.w2) (length a.scratch.now) c.in_ok-bounds.ensures.value (ap Ok c.fractions.ensures)).1
