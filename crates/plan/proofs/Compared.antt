-- The four ways compared: the earliest stop is no later than any, and semi and full reject at one unit.
-- Assumes nothing.
use Prim.Native.Nat.{ℕ, suc, ◌+◌, ◌≤◌, ◌<◌}
use mathlib.Core.Path.{◌≡◌, refl, sym, ap, ◌∙◌}
use mathlib.Core.Logic.{◌↔◌, ◌⊎◌, inl, inr}
use mathlib.Core.Bool.{Bool, true, false, cond}
use mathlib.Core.List.{List, [], ◌∷◌}
use native.Mathlib.Omega.{arith}
use native.Mathlib.Decide.{dec_lt}
use lib.ListN.{length, take}
use lib.Seq.{length-take-le, take-take}
use lib.Dec.{leb, eqb}
use Rattle.plan.specs.declared.counts.Counts.{Counts}
use Rattle.plan.specs.declared.stage.Answer.{Answer}
use Rattle.plan.specs.declared.stage.Answer.TheVariants.{GoOn, Accept, Reject}
use Rattle.plan.specs.declared.ways.StageWay.{StageWay}
use Rattle.plan.specs.declared.ways.StageWay.TheVariants.{Semi, Full}
use Rattle.plan.specs.declared.stage.Stage.{Stage}
use Rattle.plan.specs.Plan.{total}
use Rattle.plan.specs.Counts.{units, counts}
use Rattle.plan.specs.Stopping.{rejects, at_end, full_at, at_stage, current, staged, uncurtailed_at, semi_at}
use Rattle.plan.specs.Sample.{Classes, Completion, AllHave, Stops}
use Rattle.plan.specs.Promise.{earliest_rule, staged_rule}
use Rattle.plan.proofs.Answers.{accept_stops, reject_stops, accept_not_reject}
use Rattle.plan.proofs.Decide.{decided_reject, when_reject}
use Rattle.plan.proofs.FirstPlace.{Never, First, first}
use Rattle.plan.proofs.Limits.{Limits}
use Rattle.plan.proofs.Sample.{classes_take}
use Rattle.plan.proofs.Verdicts.{filled, right, settles}
use Rattle.plan.proofs.Best.{all_have, history}
use Rattle.plan.proofs.StageWays.{sound, within_plan}

-- ---- verdicts on two beginnings of one list

-- what completes a beginning completes every shorter one
completes : (p : List Stage) (x X : List ℕ) (z y : ℕ) → z ≤ y → y ≤ length x → Completion p (take y x) X → Completion p (take z x) X
completes p x X z y k w q =
    let same : take y X ≡ take y x = rw (length-take-le y x w) at q.begins in
    record {
      complete = q.complete;
      classes = q.classes;
      begins = rw (length-take-le z x (omega arith)) (sym (take-take z y X k) ∙ ap (take z) same ∙ take-take z y x k);
    }

-- so they have one verdict
one : (p : List Stage) (x : List ℕ) → Classes x → (z y : ℕ) → z ≤ y → y ≤ length x → y ≤ total p → (u v : Answer)
    → AllHave p (take z x) u → AllHave p (take y x) v → u ≡ v
one p x c z y k w t u v f g =
    let n : length (take y x) ≤ total p = omega (arith, length-take-le y x w) in
    let q = filled 0 p (take y x) (omega arith) (classes_take y x c) n in
    sym (f _ (completes p x _ z y k w q)) ∙ g _ q

-- ---- two ways that reject alike, stage by stage

abbrev Alike : StageWay → StageWay → Type 0
Alike a b = (end : ℕ) (s : Stage) (c : Counts) → at_stage a end s c ≡ Reject → at_stage b end s c ≡ Reject

staged_alike : (a b : StageWay) → Alike a b → (p : List Stage) (c : Counts) → staged a p c ≡ Reject → staged b p c ≡ Reject
unfolding staged current
staged_alike a b f p c = go 0 p
  where
    pick : (t : Bool) (u v u' v' : Answer) → (u ≡ Reject → u' ≡ Reject) → (v ≡ Reject → v' ≡ Reject) → cond t u v ≡ Reject → cond t u' v' ≡ Reject
    pick true u v u' v' g h e = g e
    pick false u v u' v' g h e = h e

    go : (before : ℕ) (q : List Stage) → current (at_stage a) before q c ≡ Reject → current (at_stage b) before q c ≡ Reject
    go before [] e = e
    go before (s ∷ rest) e = pick (leb (units c) (before + s.size)) _ _ _ _ (f (before + s.size) s c) (go (before + s.size) rest) e

-- by the rejection test alone
end_rejects : (s : Stage) (c : Counts) → at_end s c ≡ Reject → rejects s c ≡ true
unfolding at_end
end_rejects s c e = when_reject _ _ e

semi_full : Alike Semi Full
unfolding full_at uncurtailed_at semi_at at_stage
semi_full end s c e = decided_reject _ _ (go (rejects s c) (eqb (units c) end) refl e)
  where
    go : (r t : Bool) → rejects s c ≡ r → cond r Reject (cond t (at_end s c) GoOn) ≡ Reject → r ≡ true
    go true t e f = refl
    go false true e f = sym e ∙ end_rejects s c f
    go false false e f = absurd (reject_stops (sym f))

full_semi : Alike Full Semi
unfolding full_at semi_at at_stage
full_semi end s c e = rw (when_reject _ _ e)

module _ (p : List Stage) (l : Limits p) (x : List ℕ) (c : Classes x) where
  -- ---- the earliest stop is no later

  pub staged_later : (way : StageWay) (y : ℕ) (v : Answer) → Stops (staged_rule way p) x y v → (z : ℕ) × (z ≤ y) × Stops (earliest_rule p) x z v
  staged_later way y v s = go (first f (suc y))
    where
      f : ℕ → Answer
      f z = earliest_rule p (take z x)

      go : Never f (suc y) ⊎ First f (suc y) → (z : ℕ) × (z ≤ y) × Stops (earliest_rule p) x z v
      go (inl o) =
          let k = history p l x y c s.within (λ z m. o z (omega arith)) in
          absurd (s.decides (sym (settles p (take y x) (right p l (take y x) k) v s.decides (sound p l way x y v s)) ∙ o y (omega arith)))
      go (inr t) =
          let m : t.at ≤ y = omega (arith, t.before) in
          let k = history p l x t.at c (omega (arith, s.within)) t.never in
          let e : f t.at ≡ v = one p x c t.at y m s.within (within_plan p l way x y v s) (f t.at) v
          (all_have p (take t.at x) (right p l (take t.at x) k) (f t.at) t.stops refl) (sound p l way x y v s) in
          (t.at, m, record { within = omega (arith, s.within); there = e; decides = s.decides; first = t.never })

  -- ---- they reject at one unit

  rejects_alike : (a b : StageWay) → Alike a b → Alike b a → (y : ℕ) → Stops (staged_rule a p) x y Reject → Stops (staged_rule b p) x y Reject
  rejects_alike a b ab ba y s = go (first f (suc y))
    where
      f : ℕ → Answer
      f z = staged_rule b p (take z x)

      at_y : f y ≡ Reject
      at_y = staged_alike a b ab p (counts (take y x)) s.there

      stop : (t : First f (suc y)) (u : Answer) → f t.at ≡ u → Stops (staged_rule b p) x y Reject
      stop t GoOn e = absurd (t.stops e)
      stop t Accept e =
          let there : Stops (staged_rule b p) x t.at Accept = record { within = omega (arith, t.before, s.within); there = e; decides = accept_stops; first = t.never } in
          absurd (accept_not_reject (one p x c t.at y (omega (arith, t.before)) s.within (within_plan p l a x y Reject s) Accept Reject
          (sound p l b x t.at Accept there) (sound p l a x y Reject s)))
      stop t Reject e = last (dec_lt t.at y)
        where
          last : Dec (t.at < y) → Stops (staged_rule b p) x y Reject
          last (yes m) = absurd (s.decides (sym (staged_alike b a ba p (counts (take t.at x)) e) ∙ s.first t.at m))
          last (no m) = record { within = s.within; there = at_y; decides = s.decides; first = λ z k. t.never z (omega (arith, t.before)) }

      go : Never f (suc y) ⊎ First f (suc y) → Stops (staged_rule b p) x y Reject
      go (inl o) = absurd (s.decides (sym at_y ∙ o y (omega arith)))
      go (inr t) = stop t (f t.at) refl

  pub same_rejection : (y : ℕ) → Stops (staged_rule Semi p) x y Reject ↔ Stops (staged_rule Full p) x y Reject
  same_rejection y = (rejects_alike Semi Full semi_full full_semi y, rejects_alike Full Semi full_semi semi_full y)
