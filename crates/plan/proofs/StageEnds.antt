-- The ends of a plan's stages: the last one below a number of units, the first one from it on, and what they say of a history.
-- Assumes nothing.
use Prim.Native.Nat.{ℕ, ◌+◌, ◌-◌, ◌≤◌, ◌<◌}
use mathlib.Core.Path.{◌≡◌, refl}
use mathlib.Core.Logic.{◌⊎◌, inl, inr, ⊎_elim}
use mathlib.Core.Bool.{Bool, true, false, cond}
use mathlib.Core.List.{List, [], ◌∷◌}
use native.Mathlib.Omega.{arith}
use native.Mathlib.Decide.{dec_lt}
use lib.ListN.{length, take}
use lib.Seq.{length-take-le, take-take}
use lib.Dec.{ltb}
use borrow.Author.Tests.{lt-ltb, le-ltb}
use Rattle.plan.specs.declared.stage.Answer.TheVariants.{GoOn}
use Rattle.plan.specs.declared.stage.Stage.{Stage}
use Rattle.plan.specs.Plan.{total, End, end_below, end_from}
use Rattle.plan.specs.Counts.{counts}
use Rattle.plan.specs.Stopping.{earliest}
use Rattle.plan.specs.Promise.{SameStage}
use Rattle.plan.proofs.CountLaws.{undecided_within}

-- ---- the last end below y

-- no end comes before the stages
later : (before : ℕ) (p : List Stage) (e : ℕ) → End before p e → before ≤ e
unfolding End
later before [] e x' = elim x' [ ]
later before (s ∷ rest) e (inl h) = omega arith
later before (s ∷ rest) e (inr m) = omega (arith, later (before + s.size) rest e m)

not_before : (before : ℕ) (p : List Stage) (y : ℕ) → before ≤ end_below before p y
unfolding end_below
not_before before [] y = omega arith
not_before before (s ∷ rest) y = go (ltb (before + s.size) y) (not_before (before + s.size) rest y)
  where
    go : (b : Bool) → before + s.size ≤ end_below (before + s.size) rest y → before ≤ cond b (end_below (before + s.size) rest y) before
    go true l = omega arith
    go false l = omega arith

-- y lies above the number x, and every end below y is at most x
record Last (before : ℕ) (p : List Stage) (y x : ℕ) : Type 0 where
  below : x < y
  last : (e : ℕ) → End before p e → e < y → e ≤ x

last_end : (before : ℕ) (p : List Stage) (y : ℕ) → before < y → Last before p y (end_below before p y)
unfolding End end_below
last_end before [] y l = record { below = l; last = λ e m k. absurd m }
last_end before (s ∷ rest) y l = go (dec_lt (before + s.size) y) (last_end (before + s.size) rest y)
  where
    go : Dec (before + s.size < y) → (before + s.size < y → Last (before + s.size) rest y (end_below (before + s.size) rest y))
        → Last before (s ∷ rest) y (cond (ltb (before + s.size) y) (end_below (before + s.size) rest y) before)
    go (yes k) later_one =
        let t = later_one k in
        rw (lt-ltb (before + s.size) y k)
        (record { below = t.below; last = λ e m q. ⊎_elim (λ h. omega (arith, not_before (before + s.size) rest y)) (λ n. t.last e n q) m })
    go (no k) later_one =
        rw (le-ltb (before + s.size) y (omega arith))
        (record { below = l; last = λ e m q. absurd (⊎_elim (λ h. omega arith) (λ n. omega (arith, later (before + s.size) rest e n)) m) })

pub end_below_is : (p : List Stage) (y : ℕ) → 1 ≤ y → (end_below 0 p y < y) × ((e : ℕ) → End 0 p e → e < y → e ≤ end_below 0 p y)
end_below_is p y l = let t = last_end 0 p y (omega arith) in (t.below, t.last)

-- ---- the first end from y on

-- e is an end from y on, and no other one from y on comes before it
record Next (before : ℕ) (p : List Stage) (y e : ℕ) : Type 0 where
  is : End before p e
  from : y ≤ e
  first : (z : ℕ) → End before p z → y ≤ z → e ≤ z

next_end : (y before : ℕ) (p : List Stage) → (before < y) ⊎ (1 ≤ length p) → y ≤ before + total p → Next before p y (end_from before p y)
unfolding End total end_from
next_end y before [] (inl k) l = absurd (omega arith)
next_end y before [] (inr k) l = absurd (omega arith)
next_end y before (s ∷ rest) some l = go (dec_lt (before + s.size) y) (λ k. next_end y (before + s.size) rest (inl k) (omega arith))
  where
    go : Dec (before + s.size < y) → (before + s.size < y → Next (before + s.size) rest y (end_from (before + s.size) rest y))
        → Next before (s ∷ rest) y (end_from before (s ∷ rest) y)
    go (yes k) t =
        let n = t k in
        rw (lt-ltb (before + s.size) y k) (record { is = inr n.is; from = n.from; first = λ z m q. ⊎_elim (λ h. absurd (omega arith)) (λ r. n.first z r q) m })
    go (no k) t =
        rw (le-ltb (before + s.size) y (omega arith))
        (record { is = inl refl; from = omega arith; first = λ z m q. ⊎_elim (λ h. omega arith) (λ r. later (before + s.size) rest z r) m })

pub end_from_is : (p : List Stage) → 1 ≤ length p → (y : ℕ) → y ≤ total p → (y ≤ end_from 0 p y) × ((e : ℕ) → End 0 p e → y ≤ e → end_from 0 p y ≤ e)
end_from_is p some y l = let t = next_end y 0 p (inr some) (omega arith) in (t.from, t.first)

-- every end is within S units
ends_within : (before : ℕ) (p : List Stage) (e : ℕ) → End before p e → e ≤ before + total p
unfolding End total
ends_within before [] e x' = elim x' [ ]
ends_within before (s ∷ rest) e (inl h) = omega arith
ends_within before (s ∷ rest) e (inr m) = omega (arith, ends_within (before + s.size) rest e m)

module _ (p : List Stage) (some : 1 ≤ length p) (y : ℕ) (l : y ≤ total p) where
  pub end_within : end_from 0 p y ≤ total p
  end_within = omega (arith, ends_within 0 p (end_from 0 p y) (next_end y 0 p (inr some) (omega arith)).is)

  pub one_end : (z : ℕ) → y ≤ z → z ≤ end_from 0 p y → end_from 0 p z ≡ end_from 0 p y
  one_end z k m =
      let from_y = next_end y 0 p (inr some) (omega arith) in
      let from_z = next_end z 0 p (inr some) (omega (arith, end_within)) in
      omega (arith, from_z.from, from_z.first (end_from 0 p y) from_y.is m, from_y.first (end_from 0 p z) from_z.is (omega (arith, from_z.from)))

-- ---- undecided at the ends, and before the last unit

module _ (p : List Stage) (h : List ℕ) where
  -- up to n units of the history, with no end from y on and before n
  undecided_to : (y n : ℕ) → y ≤ n → n ≤ length h → SameStage p y n → earliest p (counts (take n h)) ≡ GoOn → earliest p (counts (take y h)) ≡ GoOn
  undecided_to y n l w same e =
      let u : length (take n h) ≡ n = length-take-le n h w in
      rw (take-take y n h l) at (undecided_within p (take n h) y (omega arith) (λ z m k. omega (arith, same z m k)) e)

  pub by_ends : 1 ≤ length p → ((e : ℕ) → End 0 p e → e < length h → earliest p (counts (take e h)) ≡ GoOn)
      → earliest p (counts (take (length h - 1) h)) ≡ GoOn → (y : ℕ) → y < length h → earliest p (counts (take y h)) ≡ GoOn
  by_ends some ends last y l = go (dec_lt (total p) y)
    where
      go : Dec (total p < y) → earliest p (counts (take y h)) ≡ GoOn
      go (yes k) = undecided_to y (length h - 1) (omega arith) (omega arith) (λ e m q. absurd (omega (arith, ends_within 0 p e m))) last
      go (no k) =
          let t = next_end y 0 p (inr some) (omega arith) in
          elim (dec_lt (end_from 0 p y) (length h)) [
            | yes m ↦ undecided_to y (end_from 0 p y) t.from (omega arith) t.first (ends (end_from 0 p y) t.is m)
            | no m ↦ undecided_to y (length h - 1) (omega arith) (omega arith) (λ e r q. omega (arith, t.first e r q)) last
          ]
