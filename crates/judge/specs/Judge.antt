-- A list of classes judged four ways. Document 01, "Lists, events, estimates" and "Refused".
use Rattle.std.specs.Prelude.{ℕ, not, cond, List, [], ◌∷◌, length, get_or, eqb}
use Rattle.std.specs.declared.result.Result.{Result}
use Rattle.std.specs.declared.result.Result.TheVariants.{Ok, Err}
use Rattle.plan.specs.declared.counts.Counts.{Counts}
use Rattle.plan.specs.declared.stage.Answer.{Answer}
use Rattle.plan.specs.declared.stage.Answer.TheVariants.{GoOn, Accept, Reject}
use Rattle.plan.specs.declared.ways.StageWay.TheVariants.{Uncurtailed, Semi, Full}
use Rattle.plan.specs.declared.ways.Way.{Way}
use Rattle.plan.specs.declared.ways.Way.TheVariants.{Staged, Earliest}
use Rattle.plan.specs.Plan.{stages, admitted}
use Rattle.plan.specs.Counts.{units, no_units, add_units}
use Rattle.plan.specs.Stopping.{state, answer}
use Rattle.plan.specs.Sample.{are_classes}
use Rattle.plan.specs.declared.refusal.Refusal.{Refusal}
use Rattle.plan.specs.declared.refusal.Refusal.TheVariants.{Plan, Class}
use Rattle.plan.specs.Refusal.{Row, number, first_refusal}
use Rattle.plan.specs.Reply.{Reply, granted, refused}
use Rattle.judge.specs.declared.stop.Stop.{Stop}
use Rattle.judge.specs.declared.list.Judgement.{Judgement}
use Rattle.judge.specs.Event.{event_at}

-- ---- where a way stops

abbrev pub no_stop : Stop
no_stop = record { answer = GoOn; counts = no_units }

-- the stop at the units c if the answer there does not go on, else a later one
abbrev pub stop_here : Counts → Answer → Stop → Stop
stop_here c GoOn later = later
stop_here c Accept later = record { answer = Accept; counts = c }
stop_here c Reject later = record { answer = Reject; counts = c }

-- the first stop of a rule along the classes that follow the units c
abbrev pub first_stop : (Counts → Answer) → Counts → List ℕ → Stop
first_stop rule c [] = no_stop
first_stop rule c (x ∷ xs) = stop_here (add_units x 1 c) (rule (add_units x 1 c)) (first_stop rule (add_units x 1 c) xs)

abbrev pub stop_of : Way → List ℕ → List ℕ → Stop
stop_of way plan list = first_stop (answer way (stages plan)) no_units list

-- ---- the event: for one stage, once full has stopped

abbrev pub if_stopped : Answer → ℕ → ℕ
if_stopped GoOn event = 0
if_stopped Accept event = event
if_stopped Reject event = event

abbrev pub event_of : List ℕ → Stop → ℕ
event_of plan full =
    cond (eqb (length plan) 5) (if_stopped full.answer (event_at (get_or plan 0 0) (get_or plan 2 0) (get_or plan 4 0) full.counts)) 0

-- ---- judge

abbrev pub refusals : List ℕ → List ℕ → List Row
refusals plan list =
    record { refusal = Plan; when = not (admitted plan) } ∷
    record { refusal = Class; when = not (are_classes list) } ∷
    []

abbrev pub judgement : List ℕ → List ℕ → Judgement
judgement plan list = record {
  uncurtailed = stop_of (Staged Uncurtailed) plan list;
  semi = stop_of (Staged Semi) plan list;
  full = stop_of (Staged Full) plan list;
  earliest = stop_of Earliest plan list;
  event = event_of plan (stop_of (Staged Full) plan list);
}

unfoldable pub judged : List ℕ → List ℕ → Result Judgement Refusal
judged plan list = first_refusal Err (refusals plan list) (Ok (judgement plan list))

-- ---- 01's numbers of an answer: stop and state of each way and the event, or the refusal's number

abbrev pub judge_reply : Result Judgement Refusal → Reply
judge_reply (Err r) = refused (number r)
judge_reply (Ok j) = granted (
    units j.uncurtailed.counts ∷ state j.uncurtailed.answer ∷
    units j.semi.counts ∷ state j.semi.answer ∷
    units j.full.counts ∷ state j.full.answer ∷
    units j.earliest.counts ∷ state j.earliest.answer ∷
    j.event ∷ [])
