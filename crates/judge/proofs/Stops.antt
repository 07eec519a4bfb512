-- Where a way stops along a list, by the units at which it goes on. Assumes nothing.
use Prim.Native.Nat.{ℕ, ◌≤◌, ◌<◌}
use native.Mathlib.Omega.{arith}
use native.Mathlib.Decide.{dec_lt}
use mathlib.Core.Path.{◌≡◌, refl, ap, sym, subst, ◌∙◌}
use mathlib.Core.Logic.{◌↔◌, ◌≢◌, ◌⊎◌, inl, inr}
use mathlib.Core.Bool.{true}
use mathlib.Core.List.{List, []}
use lib.ListN.{length, take}
use lib.Seq.{length-take-le}
use Rattle.plan.specs.declared.counts.Counts.{Counts}
use Rattle.plan.specs.declared.stage.Answer.{Answer}
use Rattle.plan.specs.declared.stage.Answer.TheVariants.{GoOn, Accept, Reject}
use Rattle.plan.specs.declared.ways.StageWay.{StageWay}
use Rattle.plan.specs.declared.ways.Way.{Way}
use Rattle.plan.specs.declared.ways.Way.TheVariants.{Staged, Earliest}
use Rattle.plan.specs.Plan.{stages, admitted}
use Rattle.plan.specs.Counts.{units, no_units, counts}
use Rattle.plan.specs.Stopping.{staged, earliest, answer}
use Rattle.plan.specs.Sample.{Rule, Stops}
use Rattle.plan.specs.Promise.{earliest_rule, staged_rule}
use Rattle.plan.proofs.Answers.{accept_stops, reject_stops}
use Rattle.plan.proofs.Promise.{promise, counting, ways}
use Rattle.plan.proofs.Sample.{classing}
use Rattle.judge.specs.declared.stop.Stop.{Stop}
use Rattle.judge.specs.Judge.{no_stop, stop_of}
use Rattle.judge.specs.Laws.{at, rule_of}
use Rattle.judge.proofs.Least.{Stopped, Passed, walked}

-- ---- a way as a stopping rule, by its name

module _ (w : List ℕ) where
  as_staged : (way : StageWay) → ◌≡◌ {A = Rule} (rule_of (Staged way) w) (staged_rule way (stages w))
  as_staged way = λ i h. ways.staged way (stages w) (counts h) i

  as_earliest : ◌≡◌ {A = Rule} (rule_of Earliest w) (earliest_rule (stages w))
  as_earliest = λ i h. ways.earliest (stages w) (counts h) i

  pub to_staged : (way : StageWay) (xs : List ℕ) (y : ℕ) (v : Answer) → Stops (rule_of (Staged way) w) xs y v → Stops (staged_rule way (stages w)) xs y v
  to_staged way xs y v s = subst (λ (r : Rule). Stops r xs y v) (as_staged way) s

  pub from_staged : (way : StageWay) (xs : List ℕ) (y : ℕ) (v : Answer) → Stops (staged_rule way (stages w)) xs y v → Stops (rule_of (Staged way) w) xs y v
  from_staged way xs y v s = subst (λ (r : Rule). Stops r xs y v) (sym (as_staged way)) s

  pub from_earliest : (xs : List ℕ) (y : ℕ) (v : Answer) → Stops (earliest_rule (stages w)) xs y v → Stops (rule_of Earliest w) xs y v
  from_earliest xs y v s = subst (λ (r : Rule). Stops r xs y v) (sym as_earliest) s

-- ---- where it stops

module _ (w : List ℕ) (e : admitted w ≡ true) where
  -- no way stops before the first unit
  pub begins : (way : Way) → answer way (stages w) no_units ≡ GoOn
  begins Earliest = ways.earliest (stages w) no_units ∙ (promise w e).empty
  begins (Staged way) = ways.staged way (stages w) no_units ∙ go (staged way (stages w) no_units) refl
    where
      stop : (v : Answer) → v ≢ GoOn → staged way (stages w) no_units ≡ v → ⊥
      stop v n f =
          let s : Stops (staged_rule way (stages w)) [] 0 v
          = record { within = omega arith; there = ap (staged way (stages w)) counting.empty ∙ f; decides = n; first = λ z l. absurd (omega arith) } in
          let t = (promise w e).staged_later way [] classing.none 0 v s in
          let none : t.0 ≡ 0 = omega (arith, t.1) in
          let there : earliest_rule (stages w) (take 0 []) ≡ v = rw none at t.2.there in
          n (sym there ∙ ap (earliest (stages w)) counting.empty ∙ (promise w e).empty)

      go : (v : Answer) → staged way (stages w) no_units ≡ v → staged way (stages w) no_units ≡ GoOn
      go GoOn f = f
      go Accept f = absurd (stop Accept accept_stops f)
      go Reject f = absurd (stop Reject reject_stops f)

  module _ (way : Way) (xs : List ℕ) where
    abbrev rule : Counts → Answer
    rule = answer way (stages w)

    found : Stopped (answer way (stages w)) xs 0 (stop_of way w xs) ⊎ Passed (answer way (stages w)) xs 0 (stop_of way w xs)
    found = rw counting.empty at (walked rule xs)

    pub at_none : rule_of way w (take 0 xs) ≡ GoOn
    at_none = ap rule counting.empty ∙ begins way

    -- the first place that stops is the stop
    same_place : (y : ℕ) (v : Answer) → Stops (rule_of way w) xs y v → (t : Stopped (answer way (stages w)) xs 0 (stop_of way w xs)) → t.y ≡ y
    same_place y v s t = go (dec_lt t.y y) (dec_lt y t.y) (dec_lt 0 y)
      where
        go : Dec (t.y < y) → Dec (y < t.y) → Dec (0 < y) → t.y ≡ y
        go (yes l) d f = absurd (t.decides (s.first t.y l))
        go (no l) (no m) f = omega arith
        go (no l) (yes m) (yes k) = absurd (s.decides (sym s.there ∙ t.first y k m))
        go (no l) (yes m) (no k) = let none : y ≡ 0 = omega arith in absurd (s.decides (sym s.there ∙ rw none at_none))

    pub stop_is : (y : ℕ) (v : Answer) → Stops (rule_of way w) xs y v → stop_of way w xs ≡ record { answer = v; counts = counts (take y xs) }
    stop_is y v s = go found
      where
        go : Stopped (answer way (stages w)) xs 0 (stop_of way w xs) ⊎ Passed (answer way (stages w)) xs 0 (stop_of way w xs)
            → stop_of way w xs ≡ record { answer = v; counts = counts (take y xs) }
        go (inl t) =
            t.stop ∙ ap (λ (z : ℕ). record { answer = rule (counts (take z xs)); counts = counts (take z xs) }) (same_place y v s t)
            ∙ ap (λ (a : Answer). record { answer = a; counts = counts (take y xs) }) s.there
        go (inr t) = elim (dec_lt 0 y) [ yes k ↦ absurd (s.decides (sym s.there ∙ t.never y k s.within)) | no k ↦ let none : y ≡ 0 = omega arith in absurd (s.decides (sym s.there ∙ rw none at_none)) ]

    pub is_stop : (stop_of way w xs).answer ≢ GoOn → Stops (rule_of way w) xs (at (stop_of way w xs)) (stop_of way w xs).answer
    is_stop n = go found
      where
        go : Stopped (answer way (stages w)) xs 0 (stop_of way w xs) ⊎ Passed (answer way (stages w)) xs 0 (stop_of way w xs)
            → Stops (rule_of way w) xs (at (stop_of way w xs)) (stop_of way w xs).answer
        go (inr t) = absurd (n (ap (λ (s : Stop). s.answer) t.stop))
        go (inl t) =
            let u : units (counts (take t.y xs)) ≡ t.y = counting.length_of (take t.y xs) ∙ length-take-le t.y xs t.within in
            rw (t.stop, u)
            (record {
              within = t.within;
              there = refl;
              decides = t.decides;
              first = λ z l. elim (dec_lt 0 z) [ yes k ↦ t.first z k l | no k ↦ let none : z ≡ 0 = omega arith in rw none at_none ];
            })

    pub some : (stop_of way w xs).answer ≢ GoOn → 0 < at (stop_of way w xs)
    some n = elim (dec_lt 0 (at (stop_of way w xs))) [
      | yes k ↦ k
      | no k ↦ let zero : at (stop_of way w xs) ≡ 0 = omega arith in absurd (n (sym (is_stop n).there ∙ rw zero at_none))
    ]

    -- a way that goes on all along does not stop, and one that does not stop has gone on all along
    pub none : ((z : ℕ) → z ≤ length xs → rule_of way w (take z xs) ≡ GoOn) → stop_of way w xs ≡ no_stop
    none f = go found
      where
        go : Stopped (answer way (stages w)) xs 0 (stop_of way w xs) ⊎ Passed (answer way (stages w)) xs 0 (stop_of way w xs) → stop_of way w xs ≡ no_stop
        go (inl t) = absurd (t.decides (f t.y t.within))
        go (inr t) = t.stop

    pub never : (stop_of way w xs).answer ≡ GoOn → (z : ℕ) → z ≤ length xs → rule_of way w (take z xs) ≡ GoOn
    never g z l = go found
      where
        go : Stopped (answer way (stages w)) xs 0 (stop_of way w xs) ⊎ Passed (answer way (stages w)) xs 0 (stop_of way w xs) → rule_of way w (take z xs) ≡ GoOn
        go (inl t) = absurd (t.decides (sym (ap (λ (s : Stop). s.answer) t.stop) ∙ g))
        go (inr t) = elim (dec_lt 0 z) [ yes k ↦ t.never z k l | no k ↦ let zero : z ≡ 0 = omega arith in rw zero at_none ]

    pub not_reached : (stop_of way w xs).answer ≡ GoOn → at (stop_of way w xs) ≡ 0
    not_reached g = ap at (none (never g))

    pub stops : (y : ℕ) (v : Answer) → Stops (rule_of way w) xs y v ↔ ((at (stop_of way w xs) ≡ y) × ((stop_of way w xs).answer ≡ v) × (v ≢ GoOn))
    stops y v = (
      λ s.
          let is = stop_is y v s in
          (ap at is ∙ counting.length_of (take y xs) ∙ length-take-le y xs s.within, ap (λ (t : Stop). t.answer) is, s.decides),
      λ f. rw (f.0, f.1) at (is_stop (λ g. f.2 (sym f.1 ∙ g))),
    )
