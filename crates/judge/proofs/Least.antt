-- Where a rule stops along a list is the least number of units, one or more, at which it does not go on.
-- Assumes nothing.
use Prim.Native.Nat.{ℕ, zero, suc, ◌+◌, ◌≤◌, ◌<◌}
use native.Mathlib.Omega.{arith}
use native.Mathlib.Decide.{dec_lt}
use mathlib.Core.Path.{◌≡◌, refl, ap, sym, ◌∙◌}
use mathlib.Core.Logic.{◌≢◌, ◌⊎◌, inl, inr}
use mathlib.Core.List.{List}
use lib.ListN.{length, take, drop, drop_of_length-le}
use Rattle.plan.specs.declared.counts.Counts.{Counts}
use Rattle.plan.specs.declared.stage.Answer.{Answer}
use Rattle.plan.specs.declared.stage.Answer.TheVariants.{GoOn, Accept, Reject}
use Rattle.plan.specs.Counts.{counts}
use Rattle.plan.proofs.Answers.{accept_stops, reject_stops}
use Rattle.judge.specs.declared.stop.Stop.{Stop}
use Rattle.judge.specs.Judge.{no_stop, stop_here, first_stop}
use Rattle.judge.proofs.Along.{turn, next_counts}

module _ (rule : Counts → Answer) (x : List ℕ) where
  -- after i units of x: y is the first place that stops, or none does
  pub record Stopped (i : ℕ) (s : Stop) : Type 0 where
    pub y : ℕ
    pub later : i < y
    pub within : y ≤ length x
    pub stop : s ≡ record { answer = rule (counts (take y x)); counts = counts (take y x) }
    pub decides : rule (counts (take y x)) ≢ GoOn
    pub first : (z : ℕ) → i < z → z < y → rule (counts (take z x)) ≡ GoOn

  pub record Passed (i : ℕ) (s : Stop) : Type 0 where
    pub stop : s ≡ no_stop
    pub never : (z : ℕ) → i < z → z ≤ length x → rule (counts (take z x)) ≡ GoOn

  -- the rule goes on at i + 1
  module _ (i : ℕ) (s : Stop) (g : rule (counts (take (i + 1) x)) ≡ GoOn) where
    from_next : (P : ℕ → Type 0) → P (i + 1) → ((z : ℕ) → i + 1 < z → P z) → (z : ℕ) → i < z → P z
    from_next P a f z l = elim (dec_lt (i + 1) z) [ yes m ↦ f z m | no m ↦ let e : z ≡ i + 1 = omega arith in rw e a ]

    stopped_later : Stopped (i + 1) s → Stopped i s
    stopped_later t = record {
      y = t.y;
      later = omega (arith, t.later);
      within = t.within;
      stop = t.stop;
      decides = t.decides;
      first = from_next (λ z. z < t.y → rule (counts (take z x)) ≡ GoOn) (λ k. g) t.first;
    }

    passed_later : Passed (i + 1) s → Passed i s
    passed_later t = record { stop = t.stop; never = from_next (λ z. z ≤ length x → rule (counts (take z x)) ≡ GoOn) (λ k. g) t.never }

  stopped_here : (i : ℕ) → i < length x → (a : Answer) → rule (counts (take (i + 1) x)) ≡ a → a ≢ GoOn
      → Stopped i (record { answer = a; counts = counts (take (i + 1) x) })
  stopped_here i h a e n = record {
    y = i + 1;
    later = omega arith;
    within = omega arith;
    stop = ap (λ (b : Answer). record { answer = b; counts = counts (take (i + 1) x) }) (sym e);
    decides = λ g. n (sym e ∙ g);
    first = λ z l m. absurd (omega arith);
  }

  walk : (n i : ℕ) → i + n ≡ length x → Stopped i (first_stop rule (counts (take i x)) (drop i x)) ⊎ Passed i (first_stop rule (counts (take i x)) (drop i x))
  walk zero i e =
      let all : length x ≤ i = omega arith in
      inr (record { stop = ap (first_stop rule (counts (take i x))) (drop_of_length-le x all); never = λ z l m. absurd (omega arith) })
  walk (suc n) i e =
      let h : i < length x = omega arith in
      rw (turn rule x i (counts (take i x)) h (counts (take (i + 1) x)) (next_counts x i h) (rule (counts (take (i + 1) x))) refl)
      (go (rule (counts (take (i + 1) x))) refl h (walk n (i + 1) (omega arith)))
    where
      go : (a : Answer) → rule (counts (take (i + 1) x)) ≡ a → i < length x → Stopped (i + 1) (first_stop rule (counts (take (i + 1) x)) (drop (i + 1) x)) ⊎ Passed (i + 1) (first_stop rule (counts (take (i + 1) x)) (drop (i + 1) x))
          → Stopped i (stop_here (counts (take (i + 1) x)) a (first_stop rule (counts (take (i + 1) x)) (drop (i + 1) x)))
          ⊎ Passed i (stop_here (counts (take (i + 1) x)) a (first_stop rule (counts (take (i + 1) x)) (drop (i + 1) x)))
      go GoOn f h (inl t) = inl (stopped_later i _ f t)
      go GoOn f h (inr t) = inr (passed_later i _ f t)
      go Accept f h t = inl (stopped_here i h Accept f accept_stops)
      go Reject f h t = inl (stopped_here i h Reject f reject_stops)

  pub walked : Stopped 0 (first_stop rule (counts (take 0 x)) x) ⊎ Passed 0 (first_stop rule (counts (take 0 x)) x)
  walked = walk (length x) 0 (omega arith)
