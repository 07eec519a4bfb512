-- The shape of an admitted run of words: how many stages and units, and the last rejection numbers.
-- Assumes nothing.
use Prim.Native.Nat.{ℕ, ◌+◌, ◌-◌, ◌*◌, ◌≤◌, ◌<◌}
use mathlib.Core.Path.{◌≡◌, refl, sym, ap, ◌∙◌}
use mathlib.Core.Bool.{true}
use mathlib.Core.List.{List, [], ◌∷◌}
use native.Mathlib.Omega.{arith}
use native.Mathlib.Decide.{dec_lt}
use lib.ListN.{length, get_or}
use lib.Seq.{get_or-append-add}
use lib.Dec.{leb}
use borrow.Author.Tests.{leb-true, eqb-true}
use Rattle.plan.specs.declared.stage.Stage.{Stage}
use Rattle.plan.specs.Plan.{stages, first, total, ahead, numbered, last, last_reject1, last_reject2, admitted}
use Rattle.plan.specs.Promise.{Shape}
use Rattle.plan.proofs.Ends.{Each, each_map}
use Rattle.plan.proofs.Rows.{r1, r2}
use Rattle.plan.proofs.Marked.{parts, last_numbered}
use Rattle.plan.proofs.Limits.{all_stages, tests, Sound, limits}

-- what holds of a row at each stage holds at the last
last_of : (row : Stage → ℕ) (Q : ℕ → Type 0) (before : ℕ) (p : List Stage) → 1 ≤ length p → Each (λ end s. Q (row s)) before p → Q (last row p)
unfolding last
last_of row Q before [] n e = absurd (omega arith)
last_of row Q before (s ∷ []) n e = e.0
last_of row Q before (s ∷ t ∷ rest) n e = last_of row Q (before + s.size) (t ∷ rest) (omega arith) e.1

lasts : (row row' : Stage → ℕ) (before : ℕ) (p : List Stage) → Each (λ end s. leb (row s) (row' s) ≡ true) before p → last row p ≤ last row' p
unfolding last
lasts row row' before [] e = omega arith
lasts row row' before (s ∷ []) e = leb-true _ _ e.0
lasts row row' before (s ∷ t ∷ rest) e = lasts row row' (before + s.size) (t ∷ rest) e.1

some_units : (before : ℕ) (p : List Stage) → 1 ≤ length p → Each Sound before p → 1 ≤ total p
unfolding total
some_units before [] n e = absurd (omega arith)
some_units before (s ∷ rest) n e = omega (arith, e.0.size)

last_later : (row : Stage → ℕ) (s : Stage) (p : List Stage) → 1 ≤ length p → last row (s ∷ p) ≡ last row p
unfolding last
last_later row s [] n = absurd (omega arith)
last_later row s (t ∷ p) n = refl

last_only : (row : Stage → ℕ) (s : Stage) (p : List Stage) → length p ≡ 0 → last row (s ∷ p) ≡ row s
unfolding last
last_only row s [] n = refl
last_only row s (t ∷ p) n = absurd (omega arith)

-- a row whose number is word j of each stage: the last one's place
module _ (row : Stage → ℕ) (j : ℕ) (l : j < 5) (e : (w : List ℕ) → row (first w) ≡ get_or w j 0) where
  last_at : (w : List ℕ) → length w ≡ 5 * length (stages w) → 1 ≤ length (stages w) → last row (stages w) ≡ get_or w (length w + j - 5) 0
  unfolding stages first
  last_at (x ∷ y ∷ z ∷ u ∷ v ∷ rest) whole some = go (dec_lt 0 (length (stages rest))) (last_at rest)
    where
      go : Dec (0 < length (stages rest)) → (length rest ≡ 5 * length (stages rest) → 1 ≤ length (stages rest) → last row (stages rest) ≡ get_or rest (length rest + j - 5) 0)
          → last row (first (x ∷ y ∷ z ∷ u ∷ v ∷ rest) ∷ stages rest) ≡ get_or (x ∷ y ∷ z ∷ u ∷ v ∷ rest) (length (x ∷ y ∷ z ∷ u ∷ v ∷ rest) + j - 5) 0
      go (yes k) later =
          let place : length (x ∷ y ∷ z ∷ u ∷ v ∷ []) + (length rest + j - 5) ≡ length (x ∷ y ∷ z ∷ u ∷ v ∷ rest) + j - 5 = omega arith in
          last_later row _ (stages rest) (omega arith) ∙ later (omega arith) (omega arith)
          ∙ sym (get_or-append-add (x ∷ y ∷ z ∷ u ∷ v ∷ []) rest (length rest + j - 5) 0)
          ∙ ap (λ (i : ℕ). get_or (x ∷ y ∷ z ∷ u ∷ v ∷ rest) i 0) place
      go (no k) later =
          let place : j ≡ length (x ∷ y ∷ z ∷ u ∷ v ∷ rest) + j - 5 = omega arith in
          last_only row _ (stages rest) (omega arith) ∙ e (x ∷ y ∷ z ∷ u ∷ v ∷ rest) ∙ ap (λ (i : ℕ). get_or (x ∷ y ∷ z ∷ u ∷ v ∷ rest) i 0) place
  last_at [] whole some = absurd (omega arith)
  last_at (x ∷ []) whole some = absurd (omega arith)
  last_at (x ∷ y ∷ []) whole some = absurd (omega arith)
  last_at (x ∷ y ∷ z ∷ []) whole some = absurd (omega arith)
  last_at (x ∷ y ∷ z ∷ u ∷ []) whole some = absurd (omega arith)

pub shape : (w : List ℕ) → admitted w ≡ true → Shape w
unfolding last_reject1 last_reject2 first
shape w e =
    let t = tests w e in
    let l = limits w e in
    let p : List Stage = stages w in
    let q : List Stage = numbered (stages w) in
    let same : (row : Stage → ℕ) → last row q ≡ last row p = λ row. last_numbered row p (leb-true 1 (length q) t.some_numbered) in
    let whole : length w ≡ 5 * length p = eqb-true _ _ t.whole in
    record {
      whole = whole;
      some_stage = l.some_stage;
      seven_stages = leb-true (length p) 7 t.seven_stages;
      some_unit = some_units 0 p l.some_stage l.sound;
      thousand_units = omega (arith, leb-true (0 + total (ahead p) + total q) 1000 t.thousand, parts p);
      reject1_from = last_of r1 (λ n. 1 ≤ n) 0 p l.some_stage (each_map Sound (λ end s. 1 ≤ s.reject1) (λ end s a. a.reject1) 0 p l.sound);
      reject1_to = omega (arith, leb-true (last r1 q) 60 t.sixty, same r1);
      reject2_from = last_of r2 (λ n. 1 ≤ n) 0 p l.some_stage (each_map Sound (λ end s. 1 ≤ s.reject2) (λ end s a. a.reject2) 0 p l.sound);
      reject2_to = omega (arith, lasts r2 r1 0 q (all_stages _ 0 q t.crossed), same r1, same r2);
      reject1_at = last_at r1 2 (omega arith) (λ v. refl) w whole l.some_stage ∙ ap (λ (i : ℕ). get_or w i 0) (omega arith);
      reject2_at = last_at r2 4 (omega arith) (λ v. refl) w whole l.some_stage ∙ ap (λ (i : ℕ). get_or w i 0) (omega arith);
    }
