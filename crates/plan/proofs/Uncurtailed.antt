-- The uncurtailed way stops on every complete sample, with the uncurtailed verdict.
-- Assumes nothing.
use Prim.Native.Nat.{ℕ, ◌+◌, ◌≤◌, ◌<◌}
use mathlib.Core.Path.{◌≡◌, refl, ◌∙◌}
use mathlib.Core.Logic.{◌≢◌}
use mathlib.Core.List.{List, [], ◌∷◌}
use native.Mathlib.Omega.{arith}
use native.Mathlib.Decide.{dec_lt}
use lib.ListN.{length, take}
use lib.Seq.{length-take-le}
use borrow.Author.Tests.{eq-eqb, ne_eqb}
use Rattle.plan.specs.declared.counts.Counts.{Counts}
use Rattle.plan.specs.declared.stage.Answer.{Answer}
use Rattle.plan.specs.declared.stage.Answer.TheVariants.{GoOn, Accept, Reject}
use Rattle.plan.specs.declared.ways.StageWay.TheVariants.{Uncurtailed}
use Rattle.plan.specs.declared.stage.Stage.{Stage}
use Rattle.plan.specs.Plan.{total}
use Rattle.plan.specs.Counts.{units, counts}
use Rattle.plan.specs.Stopping.{or_else, at_end, first_answer, current, uncurtailed_at, staged, at_stage}
use Rattle.plan.specs.Sample.{verdict, Faithful}
use Rattle.plan.specs.Promise.{staged_rule}
use Rattle.plan.proofs.Counting.{units_counts}
use Rattle.plan.proofs.Ends.{Each, current_here, current_later}
use Rattle.plan.proofs.Limits.{Sound, Limits}
use Rattle.plan.proofs.Verdicts.{verdict_decides}

-- ---- at the first of the stages left, which come after `before` units

module _ (before : ℕ) (s : Stage) (rest : List Stage) (c : Counts) where
  within_first : units c < before + s.size → current uncurtailed_at before (s ∷ rest) c ≡ GoOn
  unfolding uncurtailed_at
  within_first l = current_here uncurtailed_at before s rest c (omega arith) ∙ rw (ne_eqb (units c) (before + s.size) (λ e. omega arith))

  at_first : units c ≡ before + s.size → current uncurtailed_at before (s ∷ rest) c ≡ at_end s c
  unfolding uncurtailed_at
  at_first e = current_here uncurtailed_at before s rest c (omega arith) ∙ rw (eq-eqb (units c) (before + s.size) e)

-- ---- along the sample x

module _ (x : List ℕ) where
  -- the answer after y units, and at the end of a stage
  abbrev after : ℕ → List Stage → ℕ → Answer
  after before p y = current uncurtailed_at before p (counts (take y x))

  abbrev answer : ℕ → List Stage → Answer
  answer before p = first_answer (λ end s. at_end s (counts (take end x))) before p

  record Stop (before : ℕ) (p : List Stage) (v : Answer) : Type 0 where
    at : ℕ
    later : before < at
    within : at ≤ length x
    there : after before p at ≡ v
    first : (z : ℕ) → z < at → after before p z ≡ GoOn

  counted : (y : ℕ) → y ≤ length x → units (counts (take y x)) ≡ y
  counted y l = units_counts (take y x) ∙ length-take-le y x l

  module _ (before : ℕ) (s : Stage) (rest : List Stage) (size : 1 ≤ s.size) (w : before + s.size ≤ length x) (v : Answer) where
    -- the first stage's end answers
    ends_here : at_end s (counts (take (before + s.size) x)) ≡ v → Stop before (s ∷ rest) v
    ends_here e = record {
      at = before + s.size;
      later = omega arith;
      within = w;
      there = at_first before s rest (counts (take (before + s.size) x)) (counted (before + s.size) w) ∙ e;
      first = λ z l. within_first before s rest (counts (take z x)) (omega (arith, counted z (omega arith)));
    }

    -- it goes on, and a later stage's end answers
    ends_later : at_end s (counts (take (before + s.size) x)) ≡ GoOn → Stop (before + s.size) rest v → Stop before (s ∷ rest) v
    ends_later e t = record {
      at = t.at;
      later = omega (arith, t.later);
      within = t.within;
      there = current_later uncurtailed_at before s rest (counts (take t.at x)) (omega (arith, t.later, counted t.at t.within)) ∙ t.there;
      first = λ z l. go z l (dec_lt z (before + s.size)) (dec_lt (before + s.size) z);
    }
      where
        go : (z : ℕ) → z < t.at → Dec (z < before + s.size) → Dec (before + s.size < z) → after before (s ∷ rest) z ≡ GoOn
        go z l (yes k) d = within_first before s rest (counts (take z x)) (omega (arith, counted z (omega arith)))
        go z l (no k) (yes m) =
            current_later uncurtailed_at before s rest (counts (take z x)) (omega (arith, counted z (omega (arith, t.within)))) ∙ t.first z l
        go z l (no k) (no m) =
            let end : z ≡ before + s.size = omega arith in
            rw end (at_first before s rest (counts (take (before + s.size) x)) (counted (before + s.size) w) ∙ e)

  stop : (before : ℕ) (p : List Stage) → Each Sound before p → before + total p ≤ length x
      → answer before p ≢ GoOn → Stop before p (answer before p)
  unfolding total or_else first_answer
  stop before [] sound w d = absurd (d refl)
  stop before (s ∷ rest) sound w d = go (at_end s (counts (take (before + s.size) x))) refl d (stop (before + s.size) rest sound.1 (omega arith))
    where
      go : (a : Answer) → at_end s (counts (take (before + s.size) x)) ≡ a → or_else a (answer (before + s.size) rest) ≢ GoOn
          → (answer (before + s.size) rest ≢ GoOn → Stop (before + s.size) rest (answer (before + s.size) rest))
          → Stop before (s ∷ rest) (or_else a (answer (before + s.size) rest))
      go GoOn e n later = ends_later before s rest sound.0.size (omega arith) _ e (later n)
      go Accept e n later = ends_here before s rest sound.0.size (omega arith) Accept e
      go Reject e n later = ends_here before s rest sound.0.size (omega arith) Reject e

pub uncurtailed_stop : (p : List Stage) → Limits p → Faithful p (staged_rule Uncurtailed p)
unfolding staged verdict at_stage
uncurtailed_stop p l x q =
    let t = stop x 0 p l.sound (omega (arith, q.complete)) (verdict_decides p l x) in
    (t.at, record { within = t.within; there = t.there; decides = verdict_decides p l x; first = t.first })
