-- The number 0 is returned exactly when the call is granted: no refusal has that number. Then an estimate's denominator is not 0.
-- Statements alone; proofs/Laws.antt proves them.
use Rattle.std.specs.Prelude.{ℕ, ◌≤◌, ◌≡◌, ◌↔◌, List}
use Rattle.plan.specs.Reply.{Reply, granted, refused}
use Rattle.sheetmodel.specs.Layout.{word}
use Rattle.sheetmodel.specs.Reply.{done_reply, look_reply, tally_reply, estimate_reply}
use Rattle.sheetmodel.specs.Calls.{fresh, open_lot, inspect, strike, close, look, tally}
use Rattle.sheetmodel.specs.Carry.{carry}
use Rattle.sheetmodel.specs.Estimate.{estimate}
use Rattle.judge.specs.Judge.{judged, judge_reply}
use Rattle.chance.specs.declared.mean.Weights.{Weights}
use Rattle.chance.specs.Reply.{bounds_reply, chart_reply, chance_answer, chart_answer}
use Rattle.chance.specs.Lot.{lot_answer}
use Rattle.chance.specs.Units.{units_answer, units_chart_answer}
use Rattle.export.specs.Returned.{number, left}

abbrev pub Granted : Reply → Type 0
Granted (granted values) = Unit {0}
Granted (refused n) = ⊥

abbrev pub ZeroExactly : Reply → Type 0
ZeroExactly r = (number r ≡ 0) ↔ Granted r

-- of every call, on any words
pub record ZeroLaw : Type 0 where
  pub fresh : (p shares w : List ℕ) → ZeroExactly (done_reply (fresh p shares w).reply)
  pub carrying : (old shares w : List ℕ) → ZeroExactly (done_reply (carry old shares w).reply)
  pub opening : (n : ℕ) (w : List ℕ) → ZeroExactly (done_reply (open_lot n w).reply)
  pub inspecting : (n c : ℕ) (w : List ℕ) → ZeroExactly (done_reply (inspect n c w).reply)
  pub striking : (n : ℕ) (w : List ℕ) → ZeroExactly (done_reply (strike n w).reply)
  pub closing : (n : ℕ) (w : List ℕ) → ZeroExactly (done_reply (close n w).reply)
  pub looking : (n : ℕ) (w : List ℕ) → ZeroExactly (look_reply (look n w).reply)
  pub tallying : (w : List ℕ) → ZeroExactly (tally_reply (tally w).reply)
  pub estimating : (n : ℕ) (w : List ℕ) → ZeroExactly (estimate_reply (estimate n w).reply)
  pub judging : (p list : List ℕ) → ZeroExactly (judge_reply (judged p list))
  pub chance : (p : List ℕ) (w : Weights) (n : ℕ) → ZeroExactly (bounds_reply (chance_answer p w n))
  pub charting : (p : List ℕ) (w : Weights) (n : ℕ) → ZeroExactly (chart_reply (chart_answer p w n))
  pub lot_chance : (p : List ℕ) (lot : Weights) (n : ℕ) → ZeroExactly (bounds_reply (lot_answer p lot n))
  pub units : (p : List ℕ) (w : Weights) (n : ℕ) → ZeroExactly (bounds_reply (units_answer p w n))
  pub units_charting : (p : List ℕ) (w : Weights) (n : ℕ) → ZeroExactly (chart_reply (units_chart_answer p w n))

-- where 0 is returned for an estimate, the last number in `out` is at least 1, so that a caller may divide by it
abbrev pub DenominatorLaw : Type 0
DenominatorLaw = (n : ℕ) (w out : List ℕ) → number (estimate_reply (estimate n w).reply) ≡ 0 → 1 ≤ word (left (estimate_reply (estimate n w).reply) out) 3
