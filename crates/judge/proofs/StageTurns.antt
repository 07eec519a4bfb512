-- Full along a list, stage by stage: it is asked at the end of each. Assumes nothing.
use Prim.Native.Nat.{ℕ, ◌+◌, ◌-◌, ◌≤◌, ◌<◌, min}
use native.Mathlib.Omega.{arith}
use native.Mathlib.Decide.{dec_lt}
use mathlib.Core.Path.{◌≡◌, refl, ap, sym, subst, ◌∙◌}
use mathlib.Core.Logic.{◌⊎◌, inl, inr}
use mathlib.Core.Bool.{true, false}
use mathlib.Core.List.{List, ◌++◌}
use lib.ListN.{length, get_or, take, drop, length-drop}
use lib.Seq.{drop-drop}
use lib.Dec.{eqb}
use borrow.Author.Tests.{eqb-false, lt-ltb, le-ltb}
use Rattle.plan.specs.declared.counts.Counts.{Counts}
use Rattle.plan.specs.declared.stage.Answer.TheVariants.{GoOn}
use Rattle.plan.specs.declared.ways.StageWay.TheVariants.{Full}
use Rattle.plan.specs.declared.ways.Way.TheVariants.{Staged}
use Rattle.plan.specs.Plan.{stages, end_from, admitted}
use Rattle.plan.specs.Counts.{units, no_units, counts_after, counts}
use Rattle.plan.specs.Stopping.{goes_on, answer}
use Rattle.plan.specs.Promise.{SameStage}
use Rattle.plan.proofs.Promise.{promise, shape, counting, stage_words}
use Rattle.judge.specs.Laws.{rule_of}
use Rattle.judge.specs.Run.{Between, BeforeStop}
use Rattle.judge.proofs.FromFull.{units_left, all_read}
use Rattle.judge.proofs.Halves.{run_end, stage_steady, stage_between}
use Rattle.judge.proofs.Runs.{run_counts, units_to}
use Rattle.judge.proofs.Stops.{at_none}

-- after i units all of the list is read, or a stage has ended and the words ws have those that follow
abbrev pub Ended : List ℕ → List ℕ → ℕ → List ℕ → Type 0
Ended w xs i ws = (length xs ≤ i) ⊎ ((y : ℕ) → i < y → end_from 0 (stages w) y ≡ end_from i (stages ws) y)

-- the first i units of the list are read, of which full goes on all along
pub record Reached (w xs : List ℕ) (i : ℕ) (c : Counts) (rest ws : List ℕ) : Type 0 where
  pub within : i ≤ length xs
  pub counted : c ≡ counts (take i xs)
  pub left : rest ≡ drop i xs
  pub went : (z : ℕ) → z ≤ i → rule_of (Staged Full) w (take z xs) ≡ GoOn
  pub ended : Ended w xs i ws

-- m units more are read, to the end of a stage or of the list: full has stopped, or has gone on
pub record StageRead (w xs : List ℕ) (i m : ℕ) (c : Counts) (rest later : List ℕ) (d : Counts) : Type 0 where
  pub few : i + m ≤ 1000
  pub read : units d ≡ i + m
  pub stopped : goes_on (answer (Staged Full) (stages w) d) ≡ false → Between (Staged Full) w xs c (units d)
  pub went_on : answer (Staged Full) (stages w) d ≡ GoOn → Reached w xs (units d) d (drop m rest) later

module _ (w : List ℕ) (ok : admitted w ≡ true) (xs : List ℕ) where
  pub none_read : Reached w xs 0 no_units xs w
  none_read = record {
    within = omega arith;
    counted = sym counting.empty;
    left = refl;
    went = λ z l. let none : z ≡ 0 = omega arith in rw none (at_none w ok (Staged Full) xs);
    ended = inr (λ y l. refl);
  }

  module _ (i : ℕ) (c : Counts) (rest ws : List ℕ) (r : Reached w xs i c rest ws) where
    pub list_read : length rest ≡ 0 → BeforeStop (Staged Full) w xs c
    list_read n = all_read w ok xs i r.within r.went (omega (arith, ap length r.left, length-drop i xs)) c r.counted

    -- no stage is left
    pub plan_read : length ws < 5 → BeforeStop (Staged Full) w xs c
    plan_read n = go r.ended
      where
        go : Ended w xs i ws → BeforeStop (Staged Full) w xs c
        go (inl k) = all_read w ok xs i r.within r.went k c r.counted
        go (inr f) =
            let k = units_left w ok xs i r.within r.went in
            absurd (omega (
              arith,
              f (i + 1) (omega arith),
              stage_words.none_left i (i + 1) ws n,
              ((promise w ok).end_from_is
                  (i + 1) (omega arith)).0,
            ))

    -- a stage of so many units, of which m are on the list, and what follows it
    module _ (x later : List ℕ) (p : ws ≡ x ++ later) (n : length x ≡ 5) (m : ℕ) (m_is : m ≡ min (get_or x 0 0)
        (length rest)) (k : 0 < length rest) where
      few_left : length rest ≡ length xs - i
      few_left = ap length r.left ∙ length-drop i xs

      within_stage : (y : ℕ) → y ≤ i + get_or x 0 0 → end_from i (stages ws) y ≡ i + get_or x 0 0
      within_stage y l =
          ap (λ (v : List ℕ). end_from i (stages v) y) p ∙ stage_words.next i y x later n ∙ rw (le-ltb (i + get_or x 0 0) y l)

      past : (y : ℕ) → i + get_or x 0 0 < y → end_from i (stages ws) y ≡ end_from (i + get_or x 0 0) (stages later) y
      past y l = ap (λ (v : List ℕ). end_from i (stages v) y) p ∙ stage_words.next i y x later n ∙ rw (lt-ltb
          (i + get_or x 0 0) y l)

      ended_after : (j : ℕ) → j ≡ i + m → Ended w xs i ws → Ended w xs j later
      ended_after j e (inl l) = inl (omega arith)
      ended_after j e (inr f) = go (dec_lt j (length xs))
        where
          go : Dec (j < length xs) → Ended w xs j later
          go (no l) = inl (omega arith)
          go (yes l) =
              let j_is : i + get_or x 0 0 ≡ j = omega (arith, few_left) in
              inr (λ y q. f y (omega arith) ∙ past y (omega arith) ∙ ap (λ (b : ℕ). end_from b (stages later) y) j_is)

      turned : (j : ℕ) → j ≡ i + m → (d : Counts) → d ≡ counts_after c (take m rest) → StageRead w xs i m c rest later d
      turned j e d q = record {
        few = omega (arith, in_plan);
        read = u ∙ e;
        stopped = λ g. subst (Between (Staged Full) w xs c) (sym u) (stopped (dec_lt i j) g);
        went_on = λ g. subst (λ (n : ℕ). Reached w xs n d (drop m rest) later) (sym u) (reached (went (dec_lt i j) g));
      }
        where
          within : j ≤ length xs
          within = omega (arith, few_left, r.within)

          counted : d ≡ counts (take j xs)
          counted =
              run_counts xs i j (omega arith) c d r.counted
              (q ∙ ap (λ (ys : List ℕ). counts_after c (take m ys)) r.left
              ∙ ap (λ (n : ℕ). counts_after c (take n (drop i xs))) (let n : m ≡ j - i = omega arith in n))

          u : units d ≡ j
          u = ap units counted ∙ units_to xs j within

          -- full's answer to d
          same : answer (Staged Full) (stages w) d ≡ rule_of (Staged Full) w (take j xs)
          same = ap (answer (Staged Full) (stages w)) counted

          turn : i < j → (j ≤ 1000) × SameStage (stages w) (i + 1) j
          turn l = go r.ended
            where
              go : Ended w xs i ws → (j ≤ 1000) × SameStage (stages w) (i + 1) j
              go (inl t) = absurd (omega (arith, few_left))
              go (inr f) =
                  let end = f (i + 1) (omega arith) ∙ within_stage (i + 1) (omega (arith, few_left)) in
                  let ends = run_end w (Staged Full) xs ok i j (omega (arith, few_left))
                  (units_left w ok xs i r.within r.went)
                  (omega (arith, end, few_left)) in
                  (omega (arith, ends.2, (shape w ok).thousand_units), ends.3)

          in_plan : j ≤ 1000
          in_plan = elim (dec_lt i j) [
            | yes l ↦ (turn l).0
            | no l ↦ omega (arith, units_left w ok xs i r.within r.went, (shape w ok).thousand_units)
          ]

          went : Dec (i < j) → answer (Staged Full) (stages w) d ≡ GoOn → (z : ℕ) → z ≤ j → rule_of (Staged Full) w
              (take z xs) ≡ GoOn
          went (no l) g z k = r.went z (omega arith)
          went (yes l) g z k = stage_steady w (Staged Full) xs ok i r.went j (turn l).1 within z j k (omega arith)
              (sym same ∙ g)

          stopped : Dec (i < j) → goes_on (answer (Staged Full) (stages w) d) ≡ false → Between (Staged Full) w xs c j
          stopped (yes l) g = stage_between w (Staged Full) xs ok i r.went j (turn l).1 l within in_plan c r.counted
              (ap goes_on (sym same) ∙ g)
          stopped (no l) g =
              let on : true ≡ false = sym (ap goes_on (same ∙ r.went j (omega arith))) ∙ g in
              let z : ◌≡◌ {A = ℕ} 0 1 = cc in
              absurd (omega arith)

          reached : ((z : ℕ) → z ≤ j → rule_of (Staged Full) w (take z xs) ≡ GoOn) → Reached w xs j d
              (drop m rest) later
          reached t = record {
            within = within;
            counted = counted;
            left = ap (drop m) r.left ∙ drop-drop m i xs ∙ ap (λ (n : ℕ). drop n xs) (sym e);
            went = t;
            ended = ended_after j e r.ended;
          }

-- the stage with the words x, of which the list has the classes `part`
pub stage_read : {w xs rest ws part : List ℕ} {i m : ℕ} {c d : Counts} (x later : List ℕ) → admitted w ≡ true
    → Reached w xs i c rest ws → ws ≡ x ++ later
    → length x ≡ 5 → m ≡ min (get_or x 0 0) (length rest) → eqb (length rest) 0 ≡ false → part ≡ take m rest
    → d ≡ counts_after c part
    → StageRead w xs i m c rest later d
stage_read {w} {xs} {rest} {ws} {part} {i} {m} {c} {d} x later ok r p n m_is k front q =
    let some = eqb-false (length rest) 0 k in
    turned w ok xs i c rest ws r x later p n m m_is (omega arith) (i + m) refl d (q ∙ ap (counts_after c) front)
