-- The units at the earliest stop: `stop_units` is the stop of 01's earliest way on every complete sample.
-- Assumes nothing.
use Prim.Native.Nat.{ℕ, zero, suc}
use mathlib.Core.Path.{◌≡◌, refl, sym, ap, subst, ◌∙◌}
use mathlib.Core.Logic.{◌≢◌}
use mathlib.Core.List.{List, [], ◌∷◌}
use lib.ListN.{take}
use native.Mathlib.Omega.{arith}
use Rattle.plan.specs.declared.counts.Counts.{Counts}
use Rattle.plan.specs.declared.stage.Answer.{Answer}
use Rattle.plan.specs.declared.stage.Answer.TheVariants.{GoOn, Accept, Reject}
use Rattle.plan.specs.declared.stage.Stage.{Stage}
use Rattle.plan.specs.Plan.{stages}
use Rattle.plan.specs.Counts.{no_units, add_units, counts_after, counts}
use Rattle.plan.specs.Stopping.{earliest}
use Rattle.plan.specs.Sample.{verdict, Rule, Stops}
use Rattle.plan.specs.Promise.{earliest_rule}
use Rattle.plan.proofs.Promise.{promise, counting}
use Rattle.chance.specs.Units.{while_going_on, units_after, stop_units}
use Rattle.chance.specs.UnitsLaws.{StopLaw}

-- an answer that decides reads no further unit
pub none_further : (a : Answer) (n : ℕ) → a ≢ GoOn → while_going_on a n ≡ 0
none_further GoOn n d = absurd (d refl)
none_further Accept n d = refl
none_further Reject n d = refl

-- the rule on the classes that follow the counts c
abbrev rule_after : List Stage → Counts → Rule
rule_after p c h = earliest p (counts_after c h)

module _ (p : List Stage) where
  -- a stop is read off class by class
  read_off : (x : List ℕ) (c : Counts) (y : ℕ) (v : Answer) → Stops (rule_after p c) x y v → y ≡ units_after p c x
  read_off [] c y v s = omega (arith, s.within)
  read_off (x ∷ xs) c zero v s = sym (none_further (earliest p c) _ (λ g. s.decides (sym s.there ∙ ap (earliest p) (counting.after_none c) ∙ g)))
  read_off (x ∷ xs) c (suc y) v s =
      let going : earliest p c ≡ GoOn = ap (earliest p) (sym (counting.after_none c)) ∙ s.first 0 (omega arith) in
      let next : (z : ℕ) → rule_after p c (take (suc z) (x ∷ xs)) ≡ rule_after p (add_units x 1 c) (take z xs) =
      λ z. ap (earliest p) (counting.after_one c x (take z xs)) in
      let rest : y ≡ units_after p (add_units x 1 c) xs =
      read_off xs (add_units x 1 c) y v (record {
        within = omega (arith, s.within);
        there = sym (next y) ∙ s.there;
        decides = s.decides;
        first = λ z l. sym (next z) ∙ s.first (suc z) (omega arith);
      }) in
      rw going (omega (arith, rest))

  -- the same of the counts of a whole list
  from_start : (x : List ℕ) (y : ℕ) (v : Answer) → Stops (earliest_rule p) x y v → Stops (rule_after p no_units) x y v
  from_start x y v s =
      let same : (h : List ℕ) → rule_after p no_units h ≡ earliest p (counts h) = λ h. ap (earliest p) (sym (counting.counted h)) in
      record { within = s.within; there = same (take y x) ∙ s.there; decides = s.decides; first = λ z l. same (take z x) ∙ s.first z l }

  pub stops_there : (x : List ℕ) (y : ℕ) (v : Answer) → Stops (earliest_rule p) x y v → y ≡ stop_units p x
  stops_there x y v s = read_off x no_units y v (from_start x y v s)

pub stop_law : StopLaw
stop_law plan x ok whole y v = (forth, back)
  where
    p : List Stage
    p = stages plan

    found : (z : ℕ) × Stops (earliest_rule p) x z (verdict p x)
    found = (promise plan ok).faithful x whole

    there : Stops (earliest_rule p) x (stop_units p x) (verdict p x)
    there = subst (λ (k : ℕ). Stops (earliest_rule p) x k (verdict p x)) (stops_there p x found.0 (verdict p x) found.1) found.1

    forth : Stops (earliest_rule p) x y v → (y ≡ stop_units p x) × (v ≡ verdict p x)
    forth s =
        let e = stops_there p x y v s in
        (e, sym s.there ∙ ap (λ (k : ℕ). earliest_rule p (take k x)) e ∙ there.there)

    back : (y ≡ stop_units p x) × (v ≡ verdict p x) → Stops (earliest_rule p) x y v
    back e = subst (λ (k : ℕ). Stops (earliest_rule p) x k v) (sym e.0) (subst (Stops (earliest_rule p) x (stop_units p x)) (sym e.1) there)
