-- A way's stop between two places of a list, found by halving; the stop by the units before it; and the classes of one stage, among
-- which a way has stopped if it does not go on after them. Assumes nothing.
use Prim.Native.Nat.{ℕ, ◌+◌, ◌-◌, ◌≤◌, ◌<◌, min}
use native.Mathlib.Omega.{arith}
use native.Mathlib.Decide.{dec_lt}
use mathlib.Core.Path.{◌≡◌, refl, ap, sym, ◌∙◌}
use mathlib.Core.Logic.{◌≢◌}
use mathlib.Core.Bool.{Bool, true, false}
use mathlib.Core.List.{List}
use lib.ListN.{length, take, get_or}
use Rattle.plan.specs.declared.counts.Counts.{Counts}
use Rattle.plan.specs.declared.stage.Answer.{Answer}
use Rattle.plan.specs.declared.stage.Answer.TheVariants.{GoOn, Accept, Reject}
use Rattle.plan.specs.declared.ways.Way.{Way}
use Rattle.plan.specs.Plan.{stages, total, end_from, admitted}
use Rattle.plan.specs.Counts.{units, add_units, counts_after, counts}
use Rattle.plan.specs.Stopping.{goes_on, answer}
use Rattle.plan.specs.Sample.{Stops}
use Rattle.plan.specs.Promise.{SameStage}
use Rattle.plan.proofs.Promise.{promise}
use Rattle.judge.specs.Judge.{no_stop, stop_of}
use Rattle.judge.specs.Laws.{at, rule_of}
use Rattle.judge.specs.Run.{Steady, Between, units_before, BeforeStop}
use Rattle.judge.proofs.Along.{next_counts}
use Rattle.judge.proofs.Runs.{run, run_counts, run_length, units_to}
use Rattle.judge.proofs.Stops.{stop_is, is_stop, some, none, never}

pub is_on : (a : Answer) → goes_on a ≡ true → a ≡ GoOn
is_on GoOn e = refl
is_on Accept e = cc
is_on Reject e = cc

pub is_off : (a : Answer) → goes_on a ≡ false → a ≢ GoOn
is_off a e g = let f : false ≡ true = sym e ∙ ap goes_on g in let z : ◌≡◌ {A = ℕ} 0 1 = cc in omega arith

-- counts of a list's first i classes
pub placed : (xs : List ℕ) (i : ℕ) → i ≤ length xs → (c : Counts) → c ≡ counts (take i xs) → (units c ≡ i) × (c ≡ counts (take (units c) xs))
placed xs i l c e =
    let u : units c ≡ i = ap units e ∙ units_to xs i l in
    (u, e ∙ ap (λ (n : ℕ). counts (take n xs)) (sym u))

module _ (w : List ℕ) (way : Way) (xs : List ℕ) where
  -- the middle: b counts m units
  pub record Halved (c : Counts) (n m : ℕ) (b : Counts) : Type 0 where
    pub units : units b ≡ m
    pub later : answer way (stages w) b ≡ GoOn → Between way w xs b n
    pub sooner : goes_on (answer way (stages w) b) ≡ false → Between way w xs c m

  pub halved : (c : Counts) (n : ℕ) → Between way w xs c n → (m : ℕ) → units c < m → m < n → (b : Counts) → b ≡ counts_after c (run xs (units c) m) → Halved c n m b
  halved c n t m l k b f =
      let there = run_counts xs (units c) m (omega arith) c b t.low f in
      let p = placed xs m (omega (arith, t.within)) b there in
      record {
        units = p.0;
        later = λ g. record { low = p.1; apart = omega arith; within = t.within; thousand = t.thousand; on = g; off = t.off; steady = t.steady };
        sooner = λ g. record {
          low = t.low;
          apart = l;
          within = omega (arith, t.within);
          thousand = omega (arith, t.thousand);
          on = t.on;
          off = ap (λ (d : Counts). goes_on (answer way (stages w) d)) (sym there) ∙ g;
          steady = λ y z q r. t.steady y z q (omega arith);
        };
      }

  module _ (e : admitted w ≡ true) where
    -- one class is left
    pub stop_found : (c : Counts) (n : ℕ) → Between way w xs c n → n ≤ units c + 1 → BeforeStop way w xs c
    stop_found c n t l =
        let s : Stops (rule_of way w) xs n (rule_of way w (take n xs)) = record {
          within = t.within;
          there = refl;
          decides = is_off _ t.off;
          first = λ z m. t.steady z (units c) (omega arith) (omega (arith, t.apart)) (ap (answer way (stages w)) (sym t.low) ∙ t.on);
        } in
        let u = units_to xs n t.within in
        let last : units_before xs (stop_of way w xs) ≡ units c = ap (units_before xs) (stop_is w e way xs n _ s) ∙ rw (t.off, u) (omega (arith, t.apart)) in
        record { counted = t.low ∙ ap (λ (m : ℕ). counts (take m xs)) (sym last); thousand = omega (arith, t.apart, t.thousand) }

    -- ---- the stop, by the units before it

    module _ (c : Counts) (b : BeforeStop way w xs c) where
      pub no_more : length xs ≤ units c → no_stop ≡ stop_of way w xs
      no_more l = go (goes_on (stop_of way w xs).answer) refl
        where
          go : (t : Bool) → goes_on (stop_of way w xs).answer ≡ t → no_stop ≡ stop_of way w xs
          go true f = sym (none w e way xs (never w e way xs (is_on _ f)))
          go false f =
              let n = is_off _ f in
              let s = is_stop w e way xs n in
              let last : units_before xs (stop_of way w xs) ≡ at (stop_of way w xs) - 1 = rw f in
              let p = placed xs (units_before xs (stop_of way w xs)) (omega (arith, s.within)) c b.counted in
              absurd (omega (arith, some w e way xs n, s.within, p.0))

      -- the next class
      pub stop_next : units c < length xs → (d : Counts) → d ≡ add_units (get_or xs (units c) 0) 1 c → record { answer = answer way (stages w) d; counts = d } ≡ stop_of way w xs
      stop_next l d q = go (goes_on (stop_of way w xs).answer) refl
        where
          go : (t : Bool) → goes_on (stop_of way w xs).answer ≡ t → record { answer = answer way (stages w) d; counts = d } ≡ stop_of way w xs
          go true f =
              let all : units_before xs (stop_of way w xs) ≡ length xs = rw f in
              absurd (omega (arith, (placed xs (units_before xs (stop_of way w xs)) (omega arith) c b.counted).0))
          go false f =
              let n = is_off _ f in
              let s = is_stop w e way xs n in
              let y = at (stop_of way w xs) in
              let last : units_before xs (stop_of way w xs) ≡ y - 1 = rw f in
              let p = placed xs (units_before xs (stop_of way w xs)) (omega (arith, s.within)) c b.counted in
              let one : units c + 1 ≡ y = omega (arith, some w e way xs n, p.0) in
              let there : d ≡ counts (take y xs)
              = q ∙ ap (add_units (get_or xs (units c) 0) 1) p.1 ∙ sym (next_counts xs (units c) l) ∙ ap (λ (m : ℕ). counts (take m xs)) one in
              ap (λ (k : Counts). record { answer = answer way (stages w) k; counts = k }) there
              ∙ ap (λ (a : Answer). record { answer = a; counts = counts (take y xs) }) s.there ∙ sym (stop_is w e way xs y _ s)

    -- ---- stage by stage

    pub in_stage : (y z : ℕ) → SameStage (stages w) y z → y ≤ z → z ≤ length xs → rule_of way w (take z xs) ≡ GoOn → rule_of way w (take y xs) ≡ GoOn
    in_stage y z same l k g =
        let u = units_to xs y (omega arith) in
        let n = run_length xs y z l k in
        (promise w e).within_stage way (counts (take y xs)) (run xs y z) (λ t m q. omega (arith, same t m (omega arith)))
        (ap (answer way (stages w)) (run_counts xs y z l (counts (take y xs)) (counts_after (counts (take y xs)) (run xs y z)) refl refl) ∙ g)

    -- the next run after i classes: to the end of their stage, or of the list where that comes sooner
    pub run_end : (i j : ℕ) → i < length xs → i < total (stages w) → j ≡ min (end_from 0 (stages w) (i + 1)) (length xs)
        → (i < j) × (j ≤ length xs) × (j ≤ total (stages w)) × SameStage (stages w) (i + 1) j
    run_end i j l k f =
        let n = (promise w e).end_from_is (i + 1) (omega arith) in
        (omega arith, omega arith, omega (arith, (promise w e).end_within (i + 1) (omega arith)), λ t m q. omega (arith, n.1 t m q))

    -- after i classes the way has gone on all along
    module _ (i : ℕ) (went : (z : ℕ) → z ≤ i → rule_of way w (take z xs) ≡ GoOn) where
      pub stage_steady : (j : ℕ) → SameStage (stages w) (i + 1) j → j ≤ length xs → Steady way w xs j
      stage_steady j same k y z l m g = elim (dec_lt i y) [
        | yes p ↦ in_stage y z (λ t a b. omega (arith, same t a (omega arith))) l (omega arith) g
        | no p ↦ went y (omega arith)
      ]

      pub stage_between : (j : ℕ) → SameStage (stages w) (i + 1) j → i < j → j ≤ length xs → j ≤ 1000 → (c : Counts) → c ≡ counts (take i xs)
          → goes_on (rule_of way w (take j xs)) ≡ false → Between way w xs c j
      stage_between j same l k t c p off =
          let a = placed xs i (omega arith) c p in
          record {
            low = a.1;
            apart = omega arith;
            within = k;
            thousand = t;
            on = ap (answer way (stages w)) p ∙ went i (omega arith);
            off = off;
            steady = stage_steady j same k;
          }
