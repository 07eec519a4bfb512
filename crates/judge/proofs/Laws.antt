-- The laws of judging, for every admitted plan and list. Assumes nothing.
use Prim.Native.Nat.{ℕ, ◌+◌, ◌-◌, ◌≤◌, ◌<◌}
use native.Mathlib.Omega.{arith}
use native.Mathlib.Decide.{dec_lt}
use mathlib.Core.Path.{◌≡◌, refl, ap, sym, subst, ◌∙◌}
use mathlib.Core.Logic.{◌≢◌, inl, inr}
use mathlib.Core.Bool.{Bool, true, false, not}
use mathlib.Core.List.{List, [], ◌∷◌}
use lib.ListN.{length, take, get_or}
use Rattle.std.specs.declared.result.Result.{Result}
use Rattle.std.specs.declared.result.Result.TheVariants.{Ok, Err}
use lib.Seq.{take-take}
use Rattle.plan.specs.declared.counts.Counts.{Counts}
use Rattle.plan.specs.declared.stage.Answer.{Answer}
use Rattle.plan.specs.declared.stage.Answer.TheVariants.{GoOn, Accept, Reject}
use Rattle.plan.specs.declared.ways.StageWay.{StageWay}
use Rattle.plan.specs.declared.ways.StageWay.TheVariants.{Uncurtailed, Semi, Full}
use Rattle.plan.specs.declared.ways.Way.{Way}
use Rattle.plan.specs.declared.ways.Way.TheVariants.{Staged, Earliest}
use Rattle.plan.specs.Plan.{stages, admitted}
use Rattle.plan.specs.Counts.{units, no_units, add_units, counts}
use Rattle.plan.specs.Stopping.{staged, answer}
use Rattle.plan.specs.Sample.{Classes, are_classes, Stops}
use Rattle.plan.specs.Blanks.{as_marginal, blanks_as_marginal}
use Rattle.plan.specs.declared.refusal.Refusal.{Refusal}
use Rattle.plan.specs.declared.refusal.Refusal.TheVariants.{Plan, Class}
use Rattle.plan.specs.Refusal.{Row, First, RefusedByNumber}
use Rattle.plan.specs.Promise.{staged_rule, OneStage}
use Rattle.plan.proofs.Answers.{reject_stops}
use Rattle.plan.proofs.Promise.{shape, one_stage, promise, ways}
use Rattle.plan.proofs.Sample.{classing}
use Rattle.plan.proofs.Blanks.{blank_laws}
use Rattle.plan.proofs.Refusals.{first_refusals, number_law}
use Rattle.judge.specs.declared.stop.Stop.{Stop}
use Rattle.judge.specs.declared.list.Judgement.{Judgement}
use Rattle.judge.specs.Event.{events, how_many}
use Rattle.judge.specs.Judge.{first_stop, stop_of, refusals, judgement, judged, judge_reply}
use Rattle.judge.specs.Laws.{at, rule_of, RefusedRightly, GrantedRightly, BlanksAsMarginal, StopLaws, ClassLaws}
use Rattle.judge.proofs.Along.{stop_within, next_counts}
use Rattle.judge.proofs.Stops.{to_staged, from_staged, from_earliest, stop_is, is_stop, some, not_reached, stops}
use Rattle.judge.proofs.Events.{accepted, rejected}
use Rattle.judge.proofs.FullStop.{at_acceptance, at_rejection}

-- ---- refusals

pub refused_rightly : (plan list : List ℕ) → RefusedRightly plan list
unfolding judged
refused_rightly plan list =
    let rows = refusals plan list in
    subst (RefusedByNumber rows) (sym (first_refusals.mapped _ _ judge_reply Err rows (Ok (judgement plan list)))) (number_law rows _ refl)

pub granted_rightly : (plan list : List ℕ) → GrantedRightly plan list
unfolding judged
granted_rightly plan list j = (
  go (admitted plan) (are_classes list) refl refl,
  λ f. first_refusals.grants _ Err (refusals plan list) _ (ap not f.0, (ap not f.1, tt)) ∙ ap Ok (sym f.2),
)
  where
    rows : List Row
    rows = refusals plan list

    refused_not : (n : Refusal) → First rows n → judged plan list ≡ Ok j → ⊥
    refused_not n f g =
        let h : ◌≡◌ {A = Result Judgement Refusal} (Err n) (Ok j) = sym (first_refusals.refuses _ Err rows (Ok (judgement plan list)) n f) ∙ g in
        let z : ◌≡◌ {A = ℕ} 0 1 = cc in
        omega arith

    go : (a b : Bool) → admitted plan ≡ a → are_classes list ≡ b → judged plan list ≡ Ok j
        → (admitted plan ≡ true) × (are_classes list ≡ true) × (j ≡ judgement plan list)
    go false b e f g = absurd (refused_not Plan (inl (ap not e, refl)) g)
    go true false e f g = absurd (refused_not Class (inr (ap not e, inl (ap not f, refl))) g)
    go true true e f g =
        let h : ◌≡◌ {A = Result Judgement Refusal} (Ok (judgement plan list)) (Ok j) = sym (first_refusals.grants _ Err rows (Ok (judgement plan list)) (ap not e, (ap not f, tt))) ∙ g in
        (e, f, cc)

-- ---- blanks

same_classes : (xs : List ℕ) → are_classes (blanks_as_marginal xs) ≡ are_classes xs
same_classes [] = rw blank_laws.none_as_marginal
same_classes (x ∷ xs) =
    rw (blank_laws.more_as_marginal x xs, classing.more_tested (as_marginal x) (blanks_as_marginal xs), classing.more_tested x xs, blank_laws.tested_alike x, same_classes xs)

same_stop : (rule : Counts → Answer) (c : Counts) (xs : List ℕ) → first_stop rule c (blanks_as_marginal xs) ≡ first_stop rule c xs
same_stop rule c [] = rw blank_laws.none_as_marginal
same_stop rule c (x ∷ xs) = rw (blank_laws.more_as_marginal x xs, blank_laws.added_alike x 1 c, same_stop rule (add_units x 1 c) xs)

as_marginal_judged : (plan list : List ℕ) → judged plan (blanks_as_marginal list) ≡ judged plan list
unfolding judged
as_marginal_judged plan list =
    rw (
      same_classes list,
      same_stop (answer (Staged Uncurtailed) (stages plan)) no_units list,
      same_stop (answer (Staged Semi) (stages plan)) no_units list,
      same_stop (answer (Staged Full) (stages plan)) no_units list,
      same_stop (answer Earliest (stages plan)) no_units list,
    )

pub blanks_are_marginal : (plan list other : List ℕ) → BlanksAsMarginal plan list other
blanks_are_marginal plan list other e = sym (as_marginal_judged plan list) ∙ ap (judged plan) e ∙ as_marginal_judged plan other

-- ---- stops

module _ (w : List ℕ) (e : admitted w ≡ true) where
  no_say : (way : Way) (xs ys : List ℕ) → (stop_of way w xs).answer ≢ GoOn → at (stop_of way w xs) ≤ length ys
      → take (at (stop_of way w xs)) ys ≡ take (at (stop_of way w xs)) xs → stop_of way w ys ≡ stop_of way w xs
  no_say way xs ys n l same =
      let s = is_stop w e way xs n in
      let y : ℕ = at (stop_of way w xs) in
      let t : Stops (rule_of way w) ys (at (stop_of way w xs)) (stop_of way w xs).answer = record {
        within = l;
        there = ap (rule_of way w) same ∙ s.there;
        decides = s.decides;
        first = λ z m. ap (rule_of way w) (sym (take-take z y ys (omega arith)) ∙ ap (take z) same ∙ take-take z y xs (omega arith)) ∙ s.first z m;
      } in
      stop_is w e way ys y (stop_of way w xs).answer t ∙ ap (λ (h : List ℕ). record { answer = (stop_of way w xs).answer; counts = counts h }) same
      ∙ sym (stop_is w e way xs y (stop_of way w xs).answer s)

  -- ---- one stage

  module _ (n : length w ≡ 5) where
    one : length (stages w) ≡ 1
    one = omega (arith, (shape w e).whole)

    agree : (c : Counts) (xs : List ℕ) → first_stop (answer (Staged Full) (stages w)) c xs ≡ first_stop (answer Earliest (stages w)) c xs
    agree c [] = refl
    agree c (x ∷ xs) =
        let d : Counts = add_units x 1 c in
        rw (ways.staged Full (stages w) d ∙ (promise w e).one_stage one d ∙ sym (ways.earliest (stages w) d), agree d xs)

    -- full goes on after i units of the list and stops with the next one
    next_event : (xs : List ℕ) (i : ℕ) → i < length xs → staged Full (stages w) (counts (take i xs)) ≡ GoOn
        → (v : Answer) → v ≢ GoOn → staged Full (stages w) (counts (take (i + 1) xs)) ≡ v
        → how_many (events (get_or w 0 0) (get_or w 2 0) (get_or w 4 0) (counts (take (i + 1) xs))) ≡ 1
    next_event xs i l g v d f = rw c_is (go v d (rw c_is at f))
      where
        o : OneStage w
        o = one_stage w e n

        c_is : counts (take (i + 1) xs) ≡ add_units (get_or xs i 0) 1 (counts (take i xs))
        c_is = next_counts xs i l

        u : units (add_units (get_or xs i 0) 1 (counts (take i xs))) ≤ get_or w 0 0
        u = elim (dec_lt (get_or w 0 0) (units (add_units (get_or xs i 0) 1 (counts (take i xs))))) [
          | yes m ↦ absurd (d (sym f ∙ ap (staged Full (stages w)) c_is ∙ o.past (add_units (get_or xs i 0) 1 (counts (take i xs))) m))
          | no m ↦ omega arith
        ]

        go : (a : Answer) → a ≢ GoOn → staged Full (stages w) (add_units (get_or xs i 0) 1 (counts (take i xs))) ≡ a
            → how_many (events (get_or w 0 0) (get_or w 2 0) (get_or w 4 0) (add_units (get_or xs i 0) 1 (counts (take i xs)))) ≡ 1
        go GoOn m h = absurd (m refl)
        go Accept m h = accepted _ _ _ _ (at_acceptance w o (get_or xs i 0) (counts (take i xs)) u g h)
        go Reject m h = rejected _ _ _ _ (at_rejection w o (get_or xs i 0) (counts (take i xs)) u g h)

    one_event : (xs : List ℕ) → (stop_of (Staged Full) w xs).answer ≢ GoOn
        → how_many (events (get_or w 0 0) (get_or w 2 0) (get_or w 4 0) (stop_of (Staged Full) w xs).counts) ≡ 1
    one_event xs d =
        let s = is_stop w e (Staged Full) xs d in
        let y : ℕ = at (stop_of (Staged Full) w xs) in
        let k = some w e (Staged Full) xs d in
        let last : y - 1 + 1 ≡ y = omega arith in
        rw (ap (λ (t : Stop). t.counts) (stop_is w e (Staged Full) xs y (stop_of (Staged Full) w xs).answer s), ← last)
        (next_event xs (y - 1) (omega (arith, s.within)) ((to_staged w Full xs y _ s).first (y - 1) (omega arith)) (stop_of (Staged Full) w xs).answer d
        (rw last (to_staged w Full xs y _ s).there))

pub stop_laws : (plan list : List ℕ) → admitted plan ≡ true → StopLaws plan list
stop_laws w xs e = record {
  stops = λ way. stops w e way xs;
  not_reached = λ way. not_reached w e way xs;
  within = λ way. stop_within w e way no_units xs;
  no_say = λ way. no_say w e way xs;
  full_verdict = λ n. (promise w e).staged_sound Full xs _ _ (to_staged w Full xs _ _ (is_stop w e (Staged Full) xs n));
  one_stage = λ n. agree w e n no_units xs;
  one_event = λ n. one_event w e n xs;
}

-- ---- lists of classes that a unit may have

pub class_laws : (plan list : List ℕ) → admitted plan ≡ true → are_classes list ≡ true → ClassLaws plan list
class_laws w xs e f = record {
  no_later = λ n.
      let s = to_staged w Full xs _ _ (is_stop w e (Staged Full) xs n) in
      let t = (promise w e).staged_later Full xs c _ _ s in
      let h = (stops w e Earliest xs t.0 _).0 (from_earliest w xs _ _ t.2) in
      (omega (arith, t.1, h.0), h.1);
  same_rejection = (λ g. (both Semi Full ((promise w e).same_rejection xs c _).0 g).1, λ g. (both Full Semi ((promise w e).same_rejection xs c _).1 g).1);
  same_unit = λ g. sym (both Semi Full ((promise w e).same_rejection xs c _).0 g).0;
}
  where
    c : Classes xs
    c = (classing.tested xs).0 f

    both : (a b : StageWay) → (Stops (staged_rule a (stages w)) xs (at (stop_of (Staged a) w xs)) Reject → Stops (staged_rule b (stages w)) xs (at (stop_of (Staged a) w xs)) Reject)
        → (stop_of (Staged a) w xs).answer ≡ Reject
        → (at (stop_of (Staged b) w xs) ≡ at (stop_of (Staged a) w xs)) × ((stop_of (Staged b) w xs).answer ≡ Reject)
    both a b same g =
        let s = (stops w e (Staged a) xs (at (stop_of (Staged a) w xs)) Reject).1 (refl, g, reject_stops) in
        let t = (stops w e (Staged b) xs (at (stop_of (Staged a) w xs)) Reject).0 (from_staged w b xs _ _ (same (to_staged w a xs _ _ s))) in
        (t.0, t.1)
