-- What holds of judging a list, for every admitted plan and every list of classes: statements alone, proved in proofs/Laws.antt.
use Rattle.std.specs.Prelude.{ℕ, ◌≤◌, ◌≡◌, ◌↔◌, ◌≢◌, true, List, length, take, get_or}
use Rattle.std.specs.declared.result.Result.TheVariants.{Ok}
use Rattle.plan.specs.declared.stage.Answer.{Answer}
use Rattle.plan.specs.declared.stage.Answer.TheVariants.{GoOn, Reject}
use Rattle.plan.specs.declared.ways.StageWay.TheVariants.{Semi, Full}
use Rattle.plan.specs.declared.ways.Way.{Way}
use Rattle.plan.specs.declared.ways.Way.TheVariants.{Staged, Earliest}
use Rattle.plan.specs.Plan.{stages, total, admitted}
use Rattle.plan.specs.Counts.{units, counts}
use Rattle.plan.specs.Stopping.{answer}
use Rattle.plan.specs.Sample.{are_classes, AllHave, Rule, Stops}
use Rattle.plan.specs.Blanks.{blanks_as_marginal}
use Rattle.plan.specs.Refusal.{RefusedByNumber}
use Rattle.judge.specs.declared.stop.Stop.{Stop}
use Rattle.judge.specs.declared.list.Judgement.{Judgement}
use Rattle.judge.specs.Event.{events, how_many}
use Rattle.judge.specs.Judge.{stop_of, refusals, judgement, judged, judge_reply}

-- the stop of 01: after how many units
abbrev pub at : Stop → ℕ
at s = units s.counts

-- a way as a stopping rule
abbrev pub rule_of : Way → List ℕ → Rule
rule_of way plan h = answer way (stages plan) (counts h)

-- demand 1: refused with n exactly when n is the first row that applies, and no row that applies stands before it in the table
abbrev pub RefusedRightly : List ℕ → List ℕ → Type 0
RefusedRightly plan list = RefusedByNumber (refusals plan list) (judge_reply (judged plan list))

-- granted exactly when the plan is admitted and each class is one that a unit may have; and then it is this judgement
abbrev pub GrantedRightly : List ℕ → List ℕ → Type 0
GrantedRightly plan list = (j : Judgement) →
    (judged plan list ≡ Ok j) ↔ ((admitted plan ≡ true) × (are_classes list ≡ true) × (j ≡ judgement plan list))

-- lists that differ only in which of their marginal units are blank are judged alike, or refused alike. Document 02, change 4
abbrev pub BlanksAsMarginal : List ℕ → List ℕ → List ℕ → Type 0
BlanksAsMarginal plan list other = blanks_as_marginal list ≡ blanks_as_marginal other → judged plan list ≡ judged plan other

-- of every admitted plan and every list
pub record StopLaws (plan list : List ℕ) : Type 0 where
  -- a way stops at the least number of units at which it does not go on, with its answer there; 0 and GoOn if it is not reached
  pub stops : (way : Way) (y : ℕ) (v : Answer) → Stops (rule_of way plan) list y v ↔ ((at (stop_of way plan list) ≡ y) × ((stop_of way plan list).answer ≡ v) × (v ≢ GoOn))
  pub not_reached : (way : Way) → (stop_of way plan list).answer ≡ GoOn → at (stop_of way plan list) ≡ 0
  -- no way stops after S units
  pub within : (way : Way) → at (stop_of way plan list) ≤ total (stages plan)
  -- classes past a stop have no say in it
  pub no_say : (way : Way) (other : List ℕ) → (stop_of way plan list).answer ≢ GoOn → at (stop_of way plan list) ≤ length other
      → take (at (stop_of way plan list)) other ≡ take (at (stop_of way plan list)) list → stop_of way plan other ≡ stop_of way plan list
  -- where full stops, every completion of the list's classes so far has that uncurtailed verdict
  pub full_verdict : (stop_of (Staged Full) plan list).answer ≢ GoOn
      → AllHave (stages plan) (take (at (stop_of (Staged Full) plan list)) list) (stop_of (Staged Full) plan list).answer
  -- with one stage full and earliest agree, and at full's stop exactly one of the six events holds
  pub one_stage : length plan ≡ 5 → stop_of (Staged Full) plan list ≡ stop_of Earliest plan list
  pub one_event : length plan ≡ 5 → (stop_of (Staged Full) plan list).answer ≢ GoOn
      → how_many (events (get_or plan 0 0) (get_or plan 2 0) (get_or plan 4 0) (stop_of (Staged Full) plan list).counts) ≡ 1

-- and of every list of classes that a unit may have
pub record ClassLaws (plan list : List ℕ) : Type 0 where
  -- earliest never stops later than full, and with its answer
  pub no_later : (stop_of (Staged Full) plan list).answer ≢ GoOn
      → (at (stop_of Earliest plan list) ≤ at (stop_of (Staged Full) plan list)) × ((stop_of Earliest plan list).answer ≡ (stop_of (Staged Full) plan list).answer)
  -- semi and full reject at the same unit
  pub same_rejection : ((stop_of (Staged Semi) plan list).answer ≡ Reject) ↔ ((stop_of (Staged Full) plan list).answer ≡ Reject)
  pub same_unit : (stop_of (Staged Semi) plan list).answer ≡ Reject → at (stop_of (Staged Semi) plan list) ≡ at (stop_of (Staged Full) plan list)
