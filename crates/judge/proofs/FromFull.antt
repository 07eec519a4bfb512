-- The stops of uncurtailed, semi and earliest by full's. Assumes nothing.
use Prim.Native.Nat.{ℕ, zero, suc, ◌+◌, ◌-◌, ◌≤◌, ◌<◌}
use native.Mathlib.Omega.{arith}
use native.Mathlib.Decide.{dec_lt}
use native.Mathlib.Numerals.{add-one}
use mathlib.Core.Path.{◌≡◌, refl, ap, sym, ◌∙◌}
use mathlib.Core.Logic.{◌≢◌, ◌⊎◌, inl, inr}
use mathlib.Core.Bool.{Bool, true, false, cond}
use mathlib.Core.List.{List, [], ◌∷◌}
use lib.ListN.{length, take, get_or}
use lib.Dec.{eqb}
use borrow.Author.Tests.{eq-eqb, ne_eqb}
use Rattle.plan.specs.declared.counts.Counts.{Counts}
use Rattle.plan.specs.declared.stage.Answer.{Answer}
use Rattle.plan.specs.declared.stage.Answer.TheVariants.{GoOn, Accept, Reject}
use Rattle.plan.specs.declared.ways.StageWay.TheVariants.{Uncurtailed, Semi, Full}
use Rattle.plan.specs.declared.ways.Way.TheVariants.{Staged, Earliest}
use Rattle.plan.specs.Plan.{stages, total, end_from, admitted}
use Rattle.plan.specs.Counts.{units, nongood, no_units, add_units, counts_after, counts}
use Rattle.plan.specs.Stopping.{goes_on, staged, earliest, answer}
use Rattle.plan.specs.Boundaries.{accept_limit}
use Rattle.plan.specs.Sample.{are_classes, Stops}
use Rattle.plan.specs.Promise.{SameStage}
use Rattle.plan.proofs.Answers.{reject_stops, accept_not_reject}
use Rattle.plan.proofs.Promise.{promise, counting, shape, ways}
use Rattle.plan.proofs.Sample.{classing}
use Rattle.judge.specs.declared.stop.Stop.{Stop}
use Rattle.judge.specs.Judge.{no_stop, stop_here, first_stop, stop_of}
use Rattle.judge.specs.Laws.{at, rule_of}
use Rattle.judge.specs.Run.{Between, units_before, BeforeStop, semi_by, semi_stop}
use Rattle.judge.proofs.Along.{next_counts, stop_within}
use Rattle.judge.proofs.Runs.{run, run_counts, units_to}
use Rattle.judge.proofs.Stops.{to_staged, from_staged, from_earliest, begins, stop_is, is_stop, some, none, never}
use Rattle.judge.proofs.Halves.{is_on, is_off, placed, in_stage}
use Rattle.judge.proofs.Laws.{class_laws}

on_either : (b : Bool) (a : Answer) → a ≡ GoOn → cond b a GoOn ≡ GoOn
on_either true a e = e
on_either false a e = refl

module _ (w : List ℕ) (e : admitted w ≡ true) where
  -- plan's promises of uncurtailed and semi, by the ways' names
  uncurtailed_by : (c : Counts) → answer (Staged Uncurtailed) (stages w) c ≡ cond (eqb (units c) (end_from 0 (stages w) (units c))) (answer (Staged Full) (stages w) c) GoOn
  uncurtailed_by c = rw (ways.staged Uncurtailed (stages w) c, ways.staged Full (stages w) c) ((promise w e).uncurtailed_is c)

  -- full decides at S units
  full_decides : (c : Counts) → units c ≡ total (stages w) → answer (Staged Full) (stages w) c ≢ GoOn
  full_decides c u g =
      let on = uncurtailed_by c ∙ on_either (eqb (units c) (end_from 0 (stages w) (units c))) (answer (Staged Full) (stages w) c) g in
      (promise w e).at_last c u (sym (ways.staged Uncurtailed (stages w) c) ∙ on)

  -- so where it has gone on all along, units are left; and a list that is read to its end has no stop
  module _ (xs : List ℕ) (i : ℕ) (l : i ≤ length xs) (went : (z : ℕ) → z ≤ i → rule_of (Staged Full) w (take z xs) ≡ GoOn) where
    pub units_left : i < total (stages w)
    units_left = elim (dec_lt i (total (stages w))) [
      | yes k ↦ k
      | no k ↦ absurd (full_decides (counts (take (total (stages w)) xs)) (units_to xs (total (stages w)) (omega arith)) (went (total (stages w)) (omega arith)))
    ]

    pub all_read : length xs ≤ i → (c : Counts) → c ≡ counts (take i xs) → BeforeStop (Staged Full) w xs c
    all_read k c f =
        let end : i ≡ length xs = omega arith in
        record {
          counted = rw (none w e (Staged Full) xs (λ z m. went z (omega arith))) (f ∙ ap (λ (n : ℕ). counts (take n xs)) end);
          thousand = omega (arith, (placed xs i l c f).0, units_left, (shape w e).thousand_units);
        }

  semi_or : (c : Counts) → (answer (Staged Semi) (stages w) c ≡ Reject) ⊎ (answer (Staged Semi) (stages w) c ≡ answer (Staged Uncurtailed) (stages w) c)
  semi_or c = rw (ways.staged Semi (stages w) c, ways.staged Uncurtailed (stages w) c) ((promise w e).semi_is c)

  -- where semi does not reject
  as_uncurtailed : (c : Counts) (ys : List ℕ) → (first_stop (answer (Staged Semi) (stages w)) c ys).answer ≢ Reject
      → first_stop (answer (Staged Semi) (stages w)) c ys ≡ first_stop (answer (Staged Uncurtailed) (stages w)) c ys
  as_uncurtailed c [] n = refl
  as_uncurtailed c (x ∷ ys) n = go _ _ (semi_or (add_units x 1 c)) n (as_uncurtailed (add_units x 1 c) ys)
    where
      go : (a b : Answer) → (a ≡ Reject) ⊎ (a ≡ b) → {s t : Stop} → (stop_here (add_units x 1 c) a s).answer ≢ Reject → (s.answer ≢ Reject → s ≡ t)
          → stop_here (add_units x 1 c) a s ≡ stop_here (add_units x 1 c) b t
      go GoOn b (inl f) n later = absurd (let z : ◌≡◌ {A = ℕ} 0 1 = cc in omega arith)
      go GoOn b (inr f) n later = rw (sym f) (later n)
      go Accept b (inl f) n later = absurd (let z : ◌≡◌ {A = ℕ} 0 1 = cc in omega arith)
      go Accept b (inr f) n later = rw (sym f)
      go Reject b f n later = absurd (n refl)

module _ (w : List ℕ) (e : admitted w ≡ true) (xs : List ℕ) (full : Stop) (is : full ≡ stop_of (Staged Full) w xs) where
  -- ---- full's stop, and before it: full goes on, and so does uncurtailed

  pub in_plan : at full ≤ total (stages w)
  in_plan = rw is (stop_within w e (Staged Full) no_units xs)

  module _ (f : goes_on full.answer ≡ false) where
    stop : Stops (rule_of (Staged Full) w) xs (at full) full.answer
    stop = rw is (is_stop w e (Staged Full) xs (is_off _ (rw is at f)))

    full_is : full ≡ record { answer = full.answer; counts = counts (take (at full) xs) }
    full_is = is ∙ stop_is w e (Staged Full) xs (at full) full.answer stop

    some_unit : 1 ≤ at full
    some_unit = rw is (some w e (Staged Full) xs (is_off _ (rw is at f)))

  full_on : (z : ℕ) → z ≤ units_before xs full → rule_of (Staged Full) w (take z xs) ≡ GoOn
  full_on z = go (goes_on full.answer) refl
    where
      go : (b : Bool) → goes_on full.answer ≡ b → z ≤ cond b (length xs) (at full - 1) → rule_of (Staged Full) w (take z xs) ≡ GoOn
      go true f l = never w e (Staged Full) xs (is_on _ (rw is at f)) z l
      go false f l = (stop f).first z (omega (arith, some_unit f))

  uncurtailed_on : (z : ℕ) → z ≤ units_before xs full → rule_of (Staged Uncurtailed) w (take z xs) ≡ GoOn
  uncurtailed_on z l =
      let c = counts (take z xs) in
      uncurtailed_by w e c ∙ on_either (eqb (units c) (end_from 0 (stages w) (units c))) (answer (Staged Full) (stages w) c) (full_on z l)

  before_within : units_before xs full ≤ length xs
  before_within = go (goes_on full.answer) refl
    where
      go : (b : Bool) → goes_on full.answer ≡ b → cond b (length xs) (at full - 1) ≤ length xs
      go true f = omega arith
      go false f = omega (arith, (stop f).within)

  -- ---- uncurtailed

  pub uncurtailed_none : goes_on full.answer ≡ true → no_stop ≡ stop_of (Staged Uncurtailed) w xs
  uncurtailed_none f = sym (none w e (Staged Uncurtailed) xs (λ z l. uncurtailed_on z (rw f l)))

  -- full's stage ends after `end` units
  module _ (f : goes_on full.answer ≡ false) (end : ℕ) (ends : end ≡ end_from 0 (stages w) (at full)) where
    pub end_after : at full ≤ end
    end_after = rw ends ((promise w e).end_from_is (at full) in_plan).0

    one_end : (z : ℕ) → at full ≤ z → z ≤ end → end_from 0 (stages w) z ≡ end
    one_end z l m = (promise w e).one_end (at full) in_plan z l (omega arith) ∙ sym ends

    until_end : (z : ℕ) → z < end → z ≤ length xs → rule_of (Staged Uncurtailed) w (take z xs) ≡ GoOn
    until_end z l k = elim (dec_lt z (at full)) [
      | yes m ↦ uncurtailed_on z (rw f (omega arith))
      | no m ↦ uncurtailed_by w e (counts (take z xs)) ∙ rw (units_to xs z k, one_end z (omega arith) (omega arith), ne_eqb z end (λ g. omega arith))
    ]

    stops_at_end : end ≤ length xs → rule_of (Staged Uncurtailed) w (take end xs) ≢ GoOn
    stops_at_end k g =
        let same : rule_of (Staged Uncurtailed) w (take end xs) ≡ rule_of (Staged Full) w (take end xs)
        = uncurtailed_by w e (counts (take end xs)) ∙ rw (units_to xs end k, one_end end end_after (omega arith), eq-eqb end end refl) in
        let one : SameStage (stages w) (at full) end = λ t m q. omega (arith, ends, ((promise w e).end_from_is (at full) in_plan).1 t m q) in
        (stop f).decides (sym (stop f).there ∙ in_stage w (Staged Full) xs e (at full) end one end_after k (sym same ∙ g))

    pub uncurtailed_short : length xs < end → no_stop ≡ stop_of (Staged Uncurtailed) w xs
    uncurtailed_short l = sym (none w e (Staged Uncurtailed) xs (λ z k. until_end z (omega arith) k))

    pub uncurtailed_end : end ≤ length xs → (c : Counts) → c ≡ counts_after full.counts (run xs (at full) end)
        → record { answer = answer (Staged Uncurtailed) (stages w) c; counts = c } ≡ stop_of (Staged Uncurtailed) w xs
    uncurtailed_end k c g =
        let there = run_counts xs (at full) end end_after full.counts c (ap (λ (s : Stop). s.counts) (full_is f)) g in
        ap (λ (d : Counts). record { answer = answer (Staged Uncurtailed) (stages w) d; counts = d }) there ∙
        sym (stop_is w e (Staged Uncurtailed) xs end _ (record { within = k; there = refl; decides = stops_at_end k; first = λ z l. until_end z l (omega arith) }))

  -- ---- earliest: before full's stop it is steady

  -- uncurtailed goes on after z units
  back : (z : ℕ) → z < length xs → rule_of (Staged Uncurtailed) w (take z xs) ≡ GoOn → rule_of Earliest w (take (z + 1) xs) ≡ GoOn → rule_of Earliest w (take z xs) ≡ GoOn
  back z l u g = go (goes_on (rule_of Earliest w (take z xs))) refl
    where
      go : (b : Bool) → goes_on (rule_of Earliest w (take z xs)) ≡ b → rule_of Earliest w (take z xs) ≡ GoOn
      go true f = is_on _ f
      go false f =
          let n = is_off _ f in
          let c = counts (take z xs) in
          let more = (promise w e).unit_more c (get_or xs z 0) _ n (sym (ways.staged Uncurtailed (stages w) c) ∙ u) (sym (ways.earliest (stages w) c)) in
          absurd (n (sym more ∙ sym (ways.earliest (stages w) (add_units (get_or xs z 0) 1 c)) ∙ ap (answer Earliest (stages w)) (sym (next_counts xs z l)) ∙ g))

  steady_to : (z y : ℕ) → y ≤ z → z ≤ units_before xs full → rule_of Earliest w (take z xs) ≡ GoOn → rule_of Earliest w (take y xs) ≡ GoOn
  steady_to zero y l m g = let zero : y ≡ 0 = omega arith in rw zero g
  steady_to (suc z) y l m g = elim (dec_lt z y) [
    | yes k ↦ let same : y ≡ suc z = omega arith in rw same g
    | no k ↦ steady_to z y (omega arith) (omega arith) (back z (omega (arith, before_within)) (uncurtailed_on z (omega arith)) (rw (add-one z) g))
  ]

  -- the units c before full's stop
  module _ (c : Counts) (b : BeforeStop (Staged Full) w xs c) where
    counted : c ≡ counts (take (units_before xs full) xs)
    counted = rw is b.counted

    -- full has not rejected, so earliest has accepted with them or goes on
    earliest_on : accept_limit 0 (stages w) (units c) (nongood c) ≤ c.bad → answer Earliest (stages w) c ≡ GoOn
    earliest_on l = ways.earliest (stages w) c ∙ go (earliest (stages w) c) refl
      where
        on : staged Full (stages w) c ≡ GoOn
        on = sym (ways.staged Full (stages w) c) ∙ ap (answer (Staged Full) (stages w)) counted ∙ full_on (units_before xs full) (omega arith)

        go : (a : Answer) → earliest (stages w) c ≡ a → earliest (stages w) c ≡ GoOn
        go GoOn f = f
        go Accept f = absurd (omega (arith, ((promise w e).accepts_below c).0 f))
        go Reject f = elim (dec_lt (total (stages w)) (units c)) [
          | yes k ↦ sym (ways.earliest (stages w) c) ∙ (promise w e).past Earliest c k
          | no k ↦ absurd (reject_stops (sym ((promise w e).full_rejects c (omega arith) f) ∙ on))
        ]

    -- where it has accepted, it stops between none and them
    pub earliest_between : (d : Counts) → d ≡ no_units → c.bad < accept_limit 0 (stages w) (units c) (nongood c) → Between Earliest w xs d (units c)
    earliest_between d p below =
        let off = ap goes_on (ways.earliest (stages w) c ∙ ((promise w e).accepts_below c).1 below) in
        let t = placed xs (units_before xs full) before_within c counted in
        rw p
        (record {
          low = sym counting.empty;
          apart = elim (dec_lt 0 (units c)) [
            | yes l ↦ l
            | no l ↦
                let zero : units c ≡ 0 = omega arith in
                absurd (is_off _ off (ap (answer Earliest (stages w)) (t.1 ∙ ap (λ (n : ℕ). counts (take n xs)) zero ∙ counting.empty) ∙ begins w e Earliest))
          ];
          within = omega (arith, t.0, before_within);
          thousand = b.thousand;
          on = begins w e Earliest;
          off = ap (λ (k : Counts). goes_on (answer Earliest (stages w) k)) (sym t.1) ∙ off;
          steady = λ y z l m. steady_to z y l (omega (arith, t.0));
        })

  -- ---- a list of classes

  module _ (k : are_classes xs ≡ true) where
    pub semi_is : semi_stop full (stop_of (Staged Uncurtailed) w xs) ≡ stop_of (Staged Semi) w xs
    semi_is = go full.answer refl
      where
        other : full.answer ≢ Reject → stop_of (Staged Uncurtailed) w xs ≡ stop_of (Staged Semi) w xs
        other n = sym (as_uncurtailed w e no_units xs (λ g. n (rw is ((class_laws w xs e k).same_rejection.0 g))))

        go : (a : Answer) → full.answer ≡ a → semi_by a full (stop_of (Staged Uncurtailed) w xs) ≡ stop_of (Staged Semi) w xs
        go GoOn f = other (λ g. let z : ◌≡◌ {A = ℕ} 0 1 = cc in omega arith)
        go Accept f = other (λ g. accept_not_reject (sym f ∙ g))
        go Reject f =
            let s : Stops (rule_of (Staged Full) w) xs (at full) Reject = rw f at (stop (ap goes_on f)) in
            let t = ((promise w e).same_rejection xs ((classing.tested xs).0 k) (at full)).1 (to_staged w Full xs (at full) Reject s) in
            is ∙ stop_is w e (Staged Full) xs (at full) Reject s ∙ sym (stop_is w e (Staged Semi) xs (at full) Reject (from_staged w Semi xs (at full) Reject t))

    -- if earliest has not stopped before full's last unit, it stops with it
    pub earliest_with_full : (c : Counts) → BeforeStop (Staged Full) w xs c → accept_limit 0 (stages w) (units c) (nongood c) ≤ c.bad → full ≡ stop_of Earliest w xs
    earliest_with_full c b g = go (goes_on full.answer) refl
      where
        on : (z : ℕ) → z ≤ units_before xs full → rule_of Earliest w (take z xs) ≡ GoOn
        on z l = steady_to (units_before xs full) z l (omega arith) (ap (answer Earliest (stages w)) (sym (counted c b)) ∙ earliest_on c b g)

        go : (t : Bool) → goes_on full.answer ≡ t → full ≡ stop_of Earliest w xs
        go true f = is ∙ none w e (Staged Full) xs (never w e (Staged Full) xs (is_on _ (rw is at f))) ∙ sym (none w e Earliest xs (λ z l. on z (rw f l)))
        go false f =
            let t = (promise w e).staged_later Full xs ((classing.tested xs).0 k) (at full) full.answer (to_staged w Full xs (at full) full.answer (stop f)) in
            let first = from_earliest w xs t.0 full.answer t.2 in
            elim (dec_lt t.0 (at full)) [
              | yes l ↦ absurd (first.decides (sym first.there ∙ on t.0 (rw f (omega arith))))
              | no l ↦
                  let same : t.0 ≡ at full = omega (arith, t.1) in
                  full_is f ∙ sym (stop_is w e Earliest xs (at full) full.answer (rw same at first))
            ]
