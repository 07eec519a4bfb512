-- The starred rows of document 01, "Known lots", in one statement, and a plan with a marked stage in another. A judged list's numbers
-- are stop and state of uncurtailed, semi, full and earliest, then the event.
use Rattle.std.specs.Prelude.{ℕ, ◌≡◌, List, [], ◌∷◌}
use Rattle.plan.specs.Plan.{stages, not_permitted}
use Rattle.plan.specs.Reply.{granted}
use Rattle.judge.specs.Judge.{judged, judge_reply}
use Rattle.chance.specs.Reply.{weights_of, bounds_reply, chance_answer}
use Rattle.sheetmodel.specs.Estimate.{estimate_of}

-- that of the program
abbrev pub plan_a : List ℕ
plan_a = 5 ∷ 2 ∷ 3 ∷ 1 ∷ 2 ∷ []

-- sizes 10, 1; both rows 0, 3 then 5, 6
abbrev pub plan_b : List ℕ
plan_b = 10 ∷ 0 ∷ 3 ∷ 0 ∷ 3 ∷ 1 ∷ 5 ∷ 6 ∷ 5 ∷ 6 ∷ []

-- size 1, both rows 0, 1
abbrev pub size_one : List ℕ
size_one = 1 ∷ 0 ∷ 1 ∷ 0 ∷ 1 ∷ []

abbrev pub ten_good : List ℕ
ten_good = 0 ∷ 0 ∷ 0 ∷ 0 ∷ 0 ∷ 0 ∷ 0 ∷ 0 ∷ 0 ∷ 0 ∷ []

pub record KnownLots : Type 0 where
  pub a_0000 : judge_reply (judged plan_a (0 ∷ 0 ∷ 0 ∷ 0 ∷ [])) ≡ granted (0 ∷ 0 ∷ 0 ∷ 0 ∷ 4 ∷ 1 ∷ 4 ∷ 1 ∷ 1 ∷ [])
  pub a_0001 : judge_reply (judged plan_a (0 ∷ 0 ∷ 0 ∷ 1 ∷ [])) ≡ granted (0 ∷ 0 ∷ 0 ∷ 0 ∷ 4 ∷ 1 ∷ 4 ∷ 1 ∷ 3 ∷ [])
  pub a_000 : judge_reply (judged plan_a (0 ∷ 0 ∷ 0 ∷ [])) ≡ granted (0 ∷ 0 ∷ 0 ∷ 0 ∷ 0 ∷ 0 ∷ 0 ∷ 0 ∷ 0 ∷ [])
  pub a_11000 : judge_reply (judged plan_a (1 ∷ 1 ∷ 0 ∷ 0 ∷ 0 ∷ [])) ≡ granted (5 ∷ 1 ∷ 5 ∷ 1 ∷ 5 ∷ 1 ∷ 5 ∷ 1 ∷ 2 ∷ [])
  pub a_22 : judge_reply (judged plan_a (2 ∷ 2 ∷ [])) ≡ granted (0 ∷ 0 ∷ 2 ∷ 2 ∷ 2 ∷ 2 ∷ 2 ∷ 2 ∷ 4 ∷ [])
  pub a_112 : judge_reply (judged plan_a (1 ∷ 1 ∷ 2 ∷ [])) ≡ granted (0 ∷ 0 ∷ 3 ∷ 2 ∷ 3 ∷ 2 ∷ 3 ∷ 2 ∷ 5 ∷ [])
  pub a_122 : judge_reply (judged plan_a (1 ∷ 2 ∷ 2 ∷ [])) ≡ granted (0 ∷ 0 ∷ 3 ∷ 2 ∷ 3 ∷ 2 ∷ 3 ∷ 2 ∷ 6 ∷ [])
  pub a_122_estimate : estimate_of (stages plan_a) (1 ∷ 2 ∷ 2 ∷ []) ≡ record { good = 0; marginal = 1; bad = 1; over = 2 }
  pub b_ten_good : judge_reply (judged plan_b ten_good) ≡ granted (10 ∷ 1 ∷ 10 ∷ 1 ∷ 10 ∷ 1 ∷ 8 ∷ 1 ∷ 0 ∷ [])
  pub b_2_ten_good : judge_reply (judged plan_b (2 ∷ ten_good)) ≡ granted (11 ∷ 1 ∷ 11 ∷ 1 ∷ 11 ∷ 1 ∷ 9 ∷ 1 ∷ 0 ∷ [])
  pub one_unit : bounds_reply (chance_answer size_one (weights_of 1 1 1) 2) ≡ granted (366503875925 ∷ 366503875926 ∷ [])
  pub one_unit_half : bounds_reply (chance_answer size_one (weights_of 1 0 1) 2) ≡ granted (549755813888 ∷ 549755813888 ∷ [])

-- sizes 2, 1; acceptance is not permitted at the first stage; both rows have rejection number 2 there, and 2, 3 at the second
abbrev pub plan_c : List ℕ
plan_c = 2 ∷ not_permitted ∷ 2 ∷ not_permitted ∷ 2 ∷ 1 ∷ 2 ∷ 3 ∷ 2 ∷ 3 ∷ []

-- earliest accepts inside the marked stage: after a good unit the two that are left give at most one bad unit at that stage's end, and
-- two in all. The other three ways do not accept there
pub record AcceptedLater : Type 0 where
  pub c_0 : judge_reply (judged plan_c (0 ∷ [])) ≡ granted (0 ∷ 0 ∷ 0 ∷ 0 ∷ 0 ∷ 0 ∷ 1 ∷ 1 ∷ 0 ∷ [])
  pub c_00 : judge_reply (judged plan_c (0 ∷ 0 ∷ [])) ≡ granted (0 ∷ 0 ∷ 0 ∷ 0 ∷ 0 ∷ 0 ∷ 1 ∷ 1 ∷ 0 ∷ [])
  pub c_022 : judge_reply (judged plan_c (0 ∷ 2 ∷ 2 ∷ [])) ≡ granted (3 ∷ 1 ∷ 3 ∷ 1 ∷ 3 ∷ 1 ∷ 1 ∷ 1 ∷ 0 ∷ [])
  pub c_22 : judge_reply (judged plan_c (2 ∷ 2 ∷ [])) ≡ granted (2 ∷ 2 ∷ 2 ∷ 2 ∷ 2 ∷ 2 ∷ 2 ∷ 2 ∷ 0 ∷ [])
