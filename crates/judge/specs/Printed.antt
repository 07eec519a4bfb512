-- The numbers of a judgement in decimal.
use Rattle.std.specs.Prelude.{ℕ, List, decimal}
use Rattle.plan.specs.Counts.{units}
use Rattle.plan.specs.Stopping.{state}
use Rattle.plan.specs.Printed.{spaced}
use Rattle.judge.specs.declared.stop.Stop.{Stop}
use Rattle.judge.specs.declared.list.Judgement.{Judgement}

-- the units and the state at a stop
abbrev pub stop_printed : Stop → List ℕ
stop_printed s = spaced (decimal (units s.counts)) (decimal (state s.answer))

-- the stops of the four ways, and the event
abbrev pub judgement_printed : Judgement → List ℕ
judgement_printed j =
    spaced (stop_printed j.uncurtailed)
    (spaced (stop_printed j.semi) (spaced (stop_printed j.full) (spaced (stop_printed j.earliest) (decimal j.event))))
