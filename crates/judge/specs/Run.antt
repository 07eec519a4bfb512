-- What the functions inside judge tell each other: parts of a list, and stops that follow from full's.
use Rattle.std.specs.Prelude.{ℕ, ◌-◌, ◌≤◌, ◌<◌, ◌≡◌, false, cond, List, length, take}
use Rattle.plan.specs.declared.counts.Counts.{Counts}
use Rattle.plan.specs.declared.stage.Answer.{Answer}
use Rattle.plan.specs.declared.stage.Answer.TheVariants.{GoOn, Accept, Reject}
use Rattle.plan.specs.declared.ways.Way.{Way}
use Rattle.plan.specs.Plan.{stages}
use Rattle.plan.specs.Counts.{units, counts}
use Rattle.plan.specs.Stopping.{goes_on, answer}
use Rattle.judge.specs.declared.stop.Stop.{Stop}
use Rattle.judge.specs.Judge.{stop_of}
use Rattle.judge.specs.Laws.{rule_of}

-- up to n units of the list, a way that goes on has gone on all along
abbrev pub Steady : Way → List ℕ → List ℕ → ℕ → Type 0
Steady way plan list n = (y z : ℕ) → y ≤ z → z ≤ n → rule_of way plan (take z list) ≡ GoOn → rule_of way plan (take y list) ≡ GoOn

-- a way's stop lies between two places of the list: it goes on at the units c, and not after n units
pub record Between (way : Way) (plan list : List ℕ) (c : Counts) (n : ℕ) : Type 0 where
  pub low : c ≡ counts (take (units c) list)
  pub apart : units c < n
  pub within : n ≤ length list
  pub thousand : n ≤ 1000
  pub on : answer way (stages plan) c ≡ GoOn
  pub off : goes_on (rule_of way plan (take n list)) ≡ false
  pub steady : Steady way plan list n

-- the units before a stop's last one; all of the list where there is no stop
abbrev pub units_before : List ℕ → Stop → ℕ
units_before list stop = cond (goes_on stop.answer) (length list) (units stop.counts - 1)

-- c counts the units before a way's stop
pub record BeforeStop (way : Way) (plan list : List ℕ) (c : Counts) : Type 0 where
  pub counted : c ≡ counts (take (units_before list (stop_of way plan list)) list)
  pub thousand : units c ≤ 1000

-- semi's stop by those of full and uncurtailed
abbrev pub semi_by : Answer → Stop → Stop → Stop
semi_by GoOn full uncurtailed = uncurtailed
semi_by Accept full uncurtailed = uncurtailed
semi_by Reject full uncurtailed = full

abbrev pub semi_stop : Stop → Stop → Stop
semi_stop full uncurtailed = semi_by full.answer full uncurtailed
