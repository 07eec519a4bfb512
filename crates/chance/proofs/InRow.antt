-- The states of one row, in place: words filled with a value, states where inspection goes on, and the row as a whole.
-- Assumes nothing.
use Prim.Native.Nat.{ℕ, ◌+◌, ◌-◌, ◌*◌, ◌%◌, ◌≤◌, ◌<◌, min}
use mathlib.Core.Path.{◌≡◌, refl, sym, ap, subst, ◌∙◌}
use mathlib.Core.Logic.{◌⊎◌, inl, inr, ⊎_elim, ◌≢◌}
use mathlib.Core.Bool.{Bool, true, false, cond}
use mathlib.Core.List.{List}
use lib.ListN.{length, get_or, set, length-set}
use lib.Seq.{get_or-set_same, get_or-set_other}
use lib.Dec.{ltb}
use borrow.Author.Tests.{ltb-true, ltb-false}
use native.Mathlib.Nat.{eq-or-lt_of_le}
use native.Mathlib.Decide.{dec_lt}
use native.Mathlib.Omega.{arith}
use Rattle.chance.specs.declared.setting.Setting.{Setting}
use Rattle.chance.specs.declared.constant.Constant.{Constant}
use Rattle.chance.specs.declared.row.Undecided.{Undecided}
use Rattle.chance.specs.Chance.{scale}
use Rattle.chance.specs.Layer.{word, state_value, Values, Valued, Between, Filled, further, Further, FurtherTo, Decided, SteppedRow}
use Rattle.chance.specs.Constant.{constant_value, Legible, SteppedState}
use Rattle.chance.proofs.States.{constant_is, inside, next_row, word_is, word_at_most, word_same, further_is, further_same}

-- a word that was set, and the others
module _ (layer : List ℕ) (k v : ℕ) (fits : k < length layer) where
  set_at : (i : ℕ) → i ≡ k → get_or (set layer k v) i 0 ≡ v
  set_at i e = subst (λ (j : ℕ). get_or (set layer k v) j 0 ≡ v) (sym e) (get_or-set_same layer k v 0 fits)

-- ---- words from `from` on, filled up to `to`

module _ {from value : ℕ} {before : List ℕ} where
  pub filled_values : {to : ℕ} {layer : List ℕ} (n m : ℕ) → Filled from to value before layer → value ≤ m → Values n m before → Values n m layer
  filled_values {to} {layer} n m p l h i k = go (dec_lt i from) (dec_lt i to)
    where
      go : Dec (i < from) → Dec (i < to) → get_or layer i 0 ≤ m
      go (yes a) b = rw (p.others i (inl a)) (h i k)
      go (no a) (yes b) = rw (p.done i (omega arith) b) l
      go (no a) (no b) = rw (p.others i (inr (omega arith))) (h i k)

-- ---- the states where inspection goes on, down to b bad units

-- the three words of a state of k bad units
pub record Reading (s : Setting) (g k : ℕ) (before layer : List ℕ) (carried : ℕ) : Type 0 where
  pub place : g * s.r2 + k < length layer
  pub good : get_or layer (g * s.r2 + k) 0 ≡ word s.r1 s.r2 before g k
  pub marginal : word s.r1 s.r2 layer (g + 1) k ≡ word s.r1 s.r2 before (g + 1) k
  pub bad : carried ≡ word s.r1 s.r2 before (g + 1) (k + 1)
  pub good_most : get_or layer (g * s.r2 + k) 0 ≤ scale
  pub marginal_most : word s.r1 s.r2 layer (g + 1) k ≤ scale
  pub bad_most : carried ≤ scale

module _ {s : Setting} {y g from to : ℕ} {before : List ℕ} where
  pub further_all : {layer : List ℕ} {bad b : ℕ} → FurtherTo s y g from to before layer bad b → b ≤ from → Further s y g from to before layer
  further_all {layer} {bad} {b} p l =
      record {
        done = λ k h m. p.done k (omega arith) m;
        others = λ i h. p.others i
            (elim (dec_lt i (g * s.r2 + b)) [ yes q ↦ inl q | no q ↦ inr (⊎_elim {C = g * s.r2 + to ≤ i} (λ a. omega (arith, p.at_least)) (λ a. a) h) ]);
      }

-- where there is no state, nothing is done
pub further_nothing : {s : Setting} {y g from to : ℕ} {layer : List ℕ} → to ≤ from → Further s y g from to layer layer
further_nothing h = record { done = λ k l m. absurd (omega arith); others = λ i l. refl }

-- one state more, of k bad units
pub further_more : {s : Setting} {y g from to bad b : ℕ} {before layer : List ℕ} → FurtherTo s y g from to before layer bad b → (k value marginal : ℕ) → b ≡ k + 1 → from ≤ k
    → g * s.r2 + k < length layer → value ≡ further s before y g k → marginal ≡ word s.r1 s.r2 before (g + 1) k
    → FurtherTo s y g from to before (set layer (g * s.r2 + k) value) marginal k
further_more {s} {y} {g} {from} {to} {bad} {b} {before} {layer} p k value marginal one l fits e f =
    let place : ℕ = g * s.r2 + k in
    record {
      same = length-set layer place value ∙ p.same;
      at_least = omega arith;
      at_most = omega (arith, p.at_most);
      done = λ j h m. ⊎_elim {C = get_or (set layer place value) (g * s.r2 + j) 0 ≡ further s before y g j}
          (λ q. subst (λ (n : ℕ). get_or (set layer place value) (g * s.r2 + n) 0 ≡ further s before y g n) q (get_or-set_same layer place value 0 fits ∙ e))
          (λ q. get_or-set_other layer place (g * s.r2 + j) value 0 (omega arith) ∙ p.done j (omega arith) m) (eq-or-lt_of_le {n = k} {m = j} h);
      others = λ i h. get_or-set_other layer place i value 0 (⊎_elim (λ a. omega arith) (λ a. omega (arith, p.at_most)) h)
          ∙ p.others i (⊎_elim {C = (i < g * s.r2 + b) ⊎ (g * s.r2 + to ≤ i)} (λ a. inl (omega arith)) inr h);
      bad_is = f;
    }

-- what is read at the state before b is as it was before the row
pub reading : {s : Setting} {y g from to bad b : ℕ} {before layer : List ℕ} → FurtherTo s y g from to before layer bad b → 0 < b
    → Valued before s → Between s y g to → Reading s g (b - 1) before layer bad
reading {s} {y} {g} {from} {to} {bad} {b} {before} {layer} p some h m =
    let one : b ≡ b - 1 + 1 = omega arith in
    let inner = inside s.r1 s.r2 g (b - 1) m.inside (omega (arith, p.at_most, m.upto)) in
    let next = next_row s.r2 g in
    let own : get_or layer (g * s.r2 + (b - 1)) 0 ≡ get_or before (g * s.r2 + (b - 1)) 0 = p.others (g * s.r2 + (b - 1)) (inl (omega arith)) in
    let on = word_same s.r1 s.r2 layer (g + 1) (b - 1) before (p.others ((g + 1) * s.r2 + (b - 1)) (inr (omega (arith, m.upto)))) in
    let most : (g b : ℕ) → word s.r1 s.r2 before g b ≤ scale = λ g b. word_at_most s.r1 s.r2 before g b scale h.values in
    record {
      place = omega (arith, p.same, h.room);
      good = own ∙ sym (word_is s.r1 s.r2 before g (b - 1) m.inside (omega (arith, p.at_most, m.upto)));
      marginal = on;
      bad = p.bad_is ∙ ap (word s.r1 s.r2 before (g + 1)) one;
      good_most = rw own (h.values (g * s.r2 + (b - 1)) inner);
      marginal_most = rw on (most (g + 1) (b - 1));
      bad_most = rw p.bad_is (most (g + 1) b);
    }

-- one state more, whose words are read by a setting that is the same
module _ {s x : Setting} (alike : x ≡ s) {y g from to bad b : ℕ} {before layer : List ℕ} (p : FurtherTo s y g from to before layer bad b) (more : from < b)
    (h : Valued before s) (m : Between s y g to) {marginal : ℕ} (f : marginal ≡ word x.r1 x.r2 layer (g + 1) (b - 1)) where
  as_read : Reading s g (b - 1) before layer bad
  as_read = reading p (omega arith) h m

  marginal_is : marginal ≡ word s.r1 s.r2 layer (g + 1) (b - 1)
  marginal_is = f ∙ ap (λ (z : Setting). word z.r1 z.r2 layer (g + 1) (b - 1)) alike

  row : x.r2 ≡ s.r2
  row = ap (λ (z : Setting). z.r2) alike

  pub values_most : (get_or layer (g * x.r2 + (b - 1)) 0 ≤ scale) × (marginal ≤ scale) × (bad ≤ scale)
  values_most = (rw row as_read.good_most, rw marginal_is as_read.marginal_most, as_read.bad_most)

  pub value_more : {value : ℕ} → value ≡ state_value s y g (b - 1) (get_or layer (g * x.r2 + (b - 1)) 0) marginal bad
      → FurtherTo s y g from to before (set layer (g * x.r2 + (b - 1)) value) marginal (b - 1)
  value_more {value} e =
      let word_on = marginal_is ∙ as_read.marginal in
      let own : value ≡ state_value s y g (b - 1) (get_or layer (g * s.r2 + (b - 1)) 0) marginal bad
      = e ∙ ap (λ (k : ℕ). state_value s y g (b - 1) (get_or layer (g * k + (b - 1)) 0) marginal bad) row in
      subst (λ (k : ℕ). FurtherTo s y g from to before (set layer (g * k + (b - 1)) value) marginal (b - 1)) (sym row)
      (further_more p (b - 1) value marginal (omega arith) (omega arith) as_read.place
      (own ∙ further_is s before y g (b - 1) as_read.good word_on as_read.bad) word_on)

-- ---- the same with constant weights, in a row before the last

module _ (t : Constant) {y g from to bad b : ℕ} {before layer : List ℕ} (valued : Valued before t.setting) (between : Between t.setting y g to) (further_on : g + 1 < t.setting.r1)
    (p : FurtherTo t.setting y g from to before layer bad b) (k : ℕ) (one : b ≡ k + 1) where
  read : Reading t.setting g k before layer bad
  read = let same : b - 1 ≡ k = omega arith in subst (λ (n : ℕ). Reading t.setting g n before layer bad) same (reading p (omega arith) valued between)

  in_row : k < t.setting.r2
  in_row = omega (arith, p.at_most, between.upto)

  on : word t.setting.r1 t.setting.r2 layer (g + 1) k ≡ get_or layer (g * t.setting.r2 + t.setting.r2 + k) 0
  on = word_is t.setting.r1 t.setting.r2 layer (g + 1) k further_on in_row ∙ ap (λ (n : ℕ). get_or layer (n + k) 0) (next_row t.setting.r2 g)

  pub legible : Legible layer (g * t.setting.r2 + k) (g * t.setting.r2 + t.setting.r2 + k) bad
  legible = record {
    place_in = read.place;
    next_in = omega (arith, inside t.setting.r1 t.setting.r2 (g + 1) k further_on in_row, next_row t.setting.r2 g, p.same, valued.room);
    good_most = read.good_most;
    marginal_most = rw (sym on) read.marginal_most;
    bad_most = read.bad_most;
  }

  -- one state more
  pub state_more : from ≤ k → {after : List ℕ} {marginal : ℕ} → SteppedState t.setting (g * t.setting.r2 + k) (g * t.setting.r2 + t.setting.r2 + k) bad layer after marginal
      → FurtherTo t.setting y g from to before after marginal k
  state_more l {after} {marginal} stepped =
      let word_on = sym on ∙ read.marginal in
      let value = constant_is t.setting y g k _ _ bad t.same ∙ further_is t.setting before y g k read.good word_on read.bad in
      subst (λ (x : List ℕ). FurtherTo t.setting y g from to before x marginal k) (sym stepped.written)
      (further_more p k (constant_value t.setting (get_or layer (g * t.setting.r2 + k) 0) (get_or layer (g * t.setting.r2 + t.setting.r2 + k) 0) bad) marginal one l read.place value (stepped.read ∙ word_on))

-- the states that four do not go into, which come first, and those that are left then
pub odd_some : (from b : ℕ) → from ≤ b → (b - from) % 4 ≢ 0 → from < b
odd_some from b h e = omega arith

pub odd_less : (from to b : ℕ) → from ≤ b → b ≤ to → to - (to - from) % 4 ≤ b → (b - from) % 4 ≢ 0 → to - (to - from) % 4 ≤ b - 1
odd_less from to b h k l e = omega arith

pub odd_none : (from to b : ℕ) → from ≤ b → b ≤ to → to - (to - from) % 4 ≤ b → (b - from) % 4 ≡ 0 → b ≡ to - (to - from) % 4
odd_none from to b h k l e = omega arith

pub fours : (from to : ℕ) → from ≤ to → (to - (to - from) % 4 - from) % 4 ≡ 0
fours from to h = omega arith

pub four_left : (from b : ℕ) → from < b → (b - from) % 4 ≡ 0 → from + 4 ≤ b
four_left from b h e = omega arith

pub four_less : (from b : ℕ) → from + 4 ≤ b → (b - from) % 4 ≡ 0 → (b - 4 - from) % 4 ≡ 0
four_less from b h e = omega arith

-- ---- the row: rejected and accepted states filled, those between the limits stepped

module _ {s : Setting} {g accept reject : ℕ} {u : Undecided} {before layer : List ℕ} (decided : Decided s g accept reject before layer u) where
  pub decided_valued : Valued before s → length layer ≡ length before → Valued layer s
  decided_valued h size = record { room = omega (arith, h.room); values = λ i l. value i l (dec_lt i (g * s.r2)) (dec_lt i (g * s.r2 + min (g + 1) s.r2)) }
    where
      within : (b : ℕ) → b < min (g + 1) s.r2 → g * s.r2 + b < s.r1 * s.r2 → Dec (b < u.from) → Dec (b < u.to) → get_or layer (g * s.r2 + b) 0 ≤ scale
      within b m l (yes p) q = rw (decided.accepted b p) (omega (arith, s.worth.fits))
      within b m l (no p) (no q) = rw (decided.rejected b (omega arith) (omega arith) m) (omega arith)
      within b m l (no p) (yes q) = rw (decided.undecided b (omega arith) q) (h.values (g * s.r2 + b) l)

      value : (i : ℕ) → i < s.r1 * s.r2 → Dec (i < g * s.r2) → Dec (i < g * s.r2 + min (g + 1) s.r2) → get_or layer i 0 ≤ scale
      value i l (yes a) b = rw (decided.others i (inl a)) (h.values i l)
      value i l (no a) (no b) = rw (decided.others i (inr (omega arith))) (h.values i l)
      value i l (no a) (yes b) =
          let place : g * s.r2 + (i - g * s.r2) ≡ i = omega arith in
          subst (λ (k : ℕ). get_or layer k 0 ≤ scale) place
          (within (i - g * s.r2) (omega arith) (omega arith) (dec_lt (i - g * s.r2) u.from) (dec_lt (i - g * s.r2) u.to))

  pub row_all : {y : ℕ} {after : List ℕ} → Further s y g u.from u.to layer after → SteppedRow s y g accept reject before after
  row_all {y} {after} stepped = record {
    done = λ b h l. value b (omega arith) (ltb b accept) (ltb b reject) refl refl;
    others = λ i h. stepped.others i
        (⊎_elim {C = (i < g * s.r2 + u.from) ⊎ (g * s.r2 + u.to ≤ i)} (λ l. inl (omega arith)) (λ l. inr (omega (arith, decided.to_is))) h)
        ∙ decided.others i h;
  }
    where
      value : (b : ℕ) → b < min (g + 1) s.r2 → (p q : Bool) → ltb b accept ≡ p → ltb b reject ≡ q
          → get_or after (g * s.r2 + b) 0 ≡ cond p s.worth.accepted (cond q (further s before y g b) 0)
      value b l true q e f =
          let below : b < u.from = omega (arith, decided.from_is, ltb-true b accept e) in
          stepped.others (g * s.r2 + b) (inl (omega arith)) ∙ decided.accepted b below
      value b l false true e f =
          let above : u.from ≤ b = omega (arith, decided.from_is, ltb-false b accept e) in
          let below : b < u.to = omega (arith, decided.to_is, ltb-true b reject f) in
          stepped.done b above below
          ∙ further_same s before y g b layer (decided.undecided b above below) (λ i h. decided.others i (inr (omega (arith, next_row s.r2 g))))
      value b l false false e f =
          let above : u.from ≤ b = omega (arith, decided.from_is, ltb-false b accept e) in
          let past : u.to ≤ b = omega (arith, decided.to_is, ltb-false b reject f) in
          stepped.others (g * s.r2 + b) (inr (omega arith)) ∙ decided.rejected b above past l
