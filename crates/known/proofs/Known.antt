-- The starred rows and the plan with a marked stage, computed. Assumes nothing. The one place that opens the definitions of other crates.
use mathlib.Core.Path.{refl}
use Rattle.plan.specs.Plan.{stages, total, marked, ahead, numbered, each, never_falls, last_step_rises, apart, below_ends, last, last_reject1, last_reject2, row_rules, numbered_rules, marked_rules, rules, admitted}
use Rattle.plan.specs.Counts.{add_units, counts_after, counts}
use Rattle.plan.specs.Stopping.{or_else, rejects, accepts, decide, at_end, uncurtailed_at, semi_at, full_at, current, at_stage, staged, first_answer, at_filled, completed, only_reject, settled, earliest, answer}
use Rattle.plan.specs.Sample.{are_classes}
use Rattle.plan.specs.Refusal.{first_refusal}
use Rattle.judge.specs.Judge.{judged}
use Rattle.chance.specs.Chance.{low, high}
use Rattle.chance.specs.Reply.{chance_answer}
use Rattle.known.specs.Known.{KnownLots, AcceptedLater}

pub known_lots : KnownLots
unfolding stages total marked ahead numbered each never_falls last_step_rises apart below_ends last last_reject1 last_reject2 row_rules numbered_rules marked_rules rules admitted add_units counts_after counts or_else rejects accepts decide at_end uncurtailed_at semi_at full_at current at_stage staged first_answer at_filled completed only_reject settled earliest answer are_classes first_refusal judged low high chance_answer
known_lots = record {
  a_0000 = refl;
  a_0001 = refl;
  a_000 = refl;
  a_11000 = refl;
  a_22 = refl;
  a_112 = refl;
  a_122 = refl;
  a_122_estimate = refl;
  b_ten_good = refl;
  b_2_ten_good = refl;
  one_unit = refl;
  one_unit_half = refl;
}

pub accepted_later : AcceptedLater
unfolding stages total marked ahead numbered each never_falls last_step_rises apart below_ends last last_reject1 last_reject2 row_rules numbered_rules marked_rules rules admitted add_units counts_after counts or_else rejects accepts decide at_end uncurtailed_at semi_at full_at current at_stage staged first_answer at_filled completed only_reject settled earliest answer are_classes first_refusal judged
accepted_later = record { c_0 = refl; c_00 = refl; c_022 = refl; c_22 = refl }
