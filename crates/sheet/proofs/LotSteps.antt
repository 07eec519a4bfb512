-- One step along the chain of lots, as the code takes it, and a lot's whole chain of inspections. Assumes nothing.
use Prim.Native.Nat.{ℕ, zero, suc, ◌-◌, ◌≤◌, ◌<◌}
use mathlib.Core.Path.{◌≡◌, refl, sym, ap, ◌∙◌}
use mathlib.Core.Logic.{◌⊎◌, inl, inr}
use mathlib.Core.Bool.{Bool, true, false, cond}
use mathlib.Core.Option.{Option, none, some}
use mathlib.Core.List.{List, [], ◌∷◌}
use native.Mathlib.Omega.{arith}
use native.Mathlib.Decide.{dec_lt}
use lib.ListN.{length}
use borrow.Author.Tests.{eq-eqb, ne_eqb}
use Rattle.std.specs.Prelude.{Some, None}
use Rattle.std.specs.Prelude as std
use Rattle.plan.specs.declared.stage.Stage.{Stage}
use Rattle.plan.specs.Plan.{stages, total, admitted}
use Rattle.plan.specs.Counts.{units}
use Rattle.plan.proofs.Promise.{promise}
use Rattle.sheet.specs.declared.record.Record.{Record}
use Rattle.sheet.specs.declared.chain.Chain.{Chain}
use Rattle.sheet.specs.declared.survey.Found.{Found}
use Rattle.sheetmodel.specs.Layout.{word, field, next, newest, next_unused}
use Rattle.sheetmodel.specs.Contents.{Inspection, Lot, classes}
use Rattle.sheetmodel.specs.Read.{guard, then, in_use, serial_at, read_inspections, read_lots, undecided_before}
use Rattle.sheet.specs.Survey.{record_at, is_lot, tested, no_chain, as_chain, chain_of, with_lot_found, lots_survey}
use Rattle.sheetmodel.proofs.ForSheet.{length_classes, units_of, fact, sound_inspections, is_history}
use Rattle.sheet.proofs.ChainSteps.{MayChain, ended, not_ended, cut_here, whole_units}
use Rattle.sheet.proofs.Tested.{same_test}

-- ---- a lot's inspections

module _ (first : ℕ) (w : List ℕ) (lot : ℕ) where
  abbrev whole_chain : List Stage → ℕ → MayChain
  whole_chain p at = chain_of (undecided_before p) (read_inspections first w lot (serial_at w at) at)

  pub no_inspection : (p : List Stage) (at : ℕ) → at ≡ 0 → whole_chain p at ≡ Some no_chain
  unfolding serial_at
  no_inspection p at e = rw (eq-eqb at 0 e) (ended first w lot (undecided_before p) at e refl)

  serial_is : (at : ℕ) → (at ≡ 0 → ⊥) → serial_at w at ≡ field w at 3
  unfolding serial_at
  serial_is at n = rw (ne_eqb at 0 n)

  pub not_used : (p : List Stage) (at : ℕ) → (at ≡ 0 → ⊥) → in_use first w at ≡ false → whole_chain p at ≡ None
  not_used p at n e = go (serial_at w at) (dec_lt 0 (serial_at w at))
    where
      go : (s : ℕ) → Dec (0 < s) → chain_of (undecided_before p) (read_inspections first w lot s at) ≡ None
      go s (yes l) = cut_here first w lot (undecided_before p) s at l (rw e)
      go s (no l) = let z : s ≡ 0 = omega arith in rw z (not_ended first w lot (undecided_before p) at n)

  no_serial : (p : List Stage) (at : ℕ) → (at ≡ 0 → ⊥) → field w at 3 ≡ 0 → whole_chain p at ≡ None
  no_serial p at n e = rw (serial_is at n, e) (not_ended first w lot (undecided_before p) at n)

  module _ (v : List ℕ) (e : admitted v ≡ true) where
    -- no lot has more units than the sample
    too_long : (n at : ℕ) → total (stages v) < n → chain_of (undecided_before (stages v)) (read_inspections first w lot n at) ≡ None
    too_long n at l = go (read_inspections first w lot n at) refl
      where
        go : (o : Option (List Inspection)) → read_inspections first w lot n at ≡ o → chain_of (undecided_before (stages v)) o ≡ None
        go none f = refl
        go (some is) f = decided (undecided_before (stages v) is) refl
          where
            decided : (b : Bool) → undecided_before (stages v) is ≡ b → cond b (Some (as_chain is)) None ≡ None
            decided true g =
                let s = sound_inspections first w lot n at is f in
                let h = is_history (stages v) first w (word w next_unused) lot at is s.0 (fact (stages v) is g) in
                absurd (omega (arith, (promise v e).no_longer (classes is) h, length_classes is, s.1))
            decided false g = refl

    pub chain_units : (n at : ℕ) (u : Chain) → Some u ≡ chain_of (undecided_before (stages v)) (read_inspections first w lot n at) → units u.counts ≤ total (stages v)
    chain_units n at u f = go (dec_lt (total (stages v)) n)
      where
        go : Dec (total (stages v) < n) → units u.counts ≤ total (stages v)
        go (yes l) = let same : Some u ≡ None = f ∙ too_long n at l in absurd (cc)
        go (no l) = omega (arith, (whole_units first w lot (undecided_before (stages v)) n at u f).0)

    -- the tests of the walk are enough
    by_tests : (n at : ℕ) → chain_of (tested (stages v) (n - 1)) (read_inspections first w lot n at) ≡ chain_of (undecided_before (stages v)) (read_inspections first w lot n at)
    by_tests n at = go (read_inspections first w lot n at) refl
      where
        go : (o : Option (List Inspection)) → read_inspections first w lot n at ≡ o → chain_of (tested (stages v) (n - 1)) o ≡ chain_of (undecided_before (stages v)) o
        go none f = refl
        go (some is) f =
            let l : n ≡ length is = (sound_inspections first w lot n at is f).1 in
            ap (λ (b : Bool). cond b (Some (as_chain is)) None) (ap (λ (k : ℕ). tested (stages v) (k - 1) is) l ∙ same_test v e is)

    -- so the chain with the newest serial s is the whole chain
    pub by_serial : (at : ℕ) → (at ≡ 0 → ⊥) → (s : ℕ) → s ≡ field w at 3 → (test : ℕ) → test ≡ s - 1 → (r : MayChain)
        → r ≡ chain_of (tested (stages v) test) (read_inspections first w lot s at) → r ≡ whole_chain (stages v) at
    by_serial at n s f test g r h =
        h ∙ rw g (by_tests s at) ∙ ap (λ (k : ℕ). chain_of (undecided_before (stages v)) (read_inspections first w lot k at)) (f ∙ sym (serial_is at n))

    -- and no lot has such a serial
    pub no_such_serial : (at : ℕ) → (at ≡ 0 → ⊥) → (s : ℕ) → s ≡ field w at 3 → (s ≡ 0) ⊎ (total (stages v) < s) → None ≡ whole_chain (stages v) at
    no_such_serial at n s f (inl z) = sym (no_serial (stages v) at n (sym f ∙ z))
    no_such_serial at n s f (inr l) =
        sym (ap (λ (k : ℕ). chain_of (undecided_before (stages v)) (read_inspections first w lot k at)) (serial_is at n ∙ sym f) ∙ too_long s at l)

-- ---- the lots

-- what the lots from here on give, where v is what the inspections of the first one gave
abbrev pub after_chain : List Stage → ℕ → Found → ℕ → ℕ → MayChain → Option (List Lot) → std.Option Found
after_chain p n f at number None rest = None
after_chain p n f at number (Some v) rest = lots_survey p n (with_lot_found n f at number v) rest

-- a whole chain was read, and has as many inspections as units
chain_read : (test : List Inspection → Bool) (o : Option (List Inspection)) (v : Chain) → Some v ≡ chain_of test o → (is : List Inspection) × (o ≡ some is) × (length is ≡ units v.counts)
chain_read test none v e = absurd (cc)
chain_read test (some is) v e = go (test is) e
  where
    go : (b : Bool) → Some v ≡ cond b (Some (as_chain is)) None → (js : List Inspection) × (some is ≡ some js) × (length js ≡ units v.counts)
    go true f = let same : v ≡ as_chain is = cc in (is, refl, rw same (sym (units_of is)))
    go false f = absurd (cc)

one_lot : (p : List Stage) (n : ℕ) (f : Found) (at number : ℕ) (o : Option (List Inspection)) (rest : Option (List Lot))
    → lots_survey p n f (then o (λ is. then rest (λ ls. some (record { at = at; number = number; inspections = is } ∷ ls)))) ≡ after_chain p n f at number (chain_of (undecided_before p) o) rest
one_lot p n f at number none rest = refl
one_lot p n f at number (some is) rest = go (undecided_before p is) refl rest
  where
    go : (b : Bool) → undecided_before p is ≡ b → (r : Option (List Lot))
        → lots_survey p n f (then r (λ ls. some (record { at = at; number = number; inspections = is } ∷ ls))) ≡ after_chain p n f at number (cond b (Some (as_chain is)) None) r
    go true e none = refl
    go false e none = refl
    go true e (some ls) = rw e
    go false e (some ls) = rw e

module _ (first : ℕ) (w : List ℕ) where
  step : (left above at : ℕ) → 0 < left → (at ≡ 0 → ⊥) → read_lots first w left above at ≡
      guard (is_lot first w above at) (λ ok. then (read_inspections first w at (serial_at w (newest w at)) (newest w at)) (λ is.
      then (read_lots first w (left - 1) (field w at 0) (next w at)) (λ ls. some (record { at = at; number = field w at 0; inspections = is } ∷ ls))))
  unfolding read_lots
  step zero above at l z = absurd (omega arith)
  step (suc left) above at l z = let m : suc left - 1 ≡ left = omega arith in rw (ne_eqb at 0 z, m)

  -- where no lot is left, none is read
  pub no_lots : (left above at : ℕ) → at ≡ 0 → read_lots first w left above at ≡ some []
  unfolding read_lots
  no_lots zero above at e = rw (eq-eqb at 0 e)
  no_lots (suc left) above at e = rw (eq-eqb at 0 e)

  -- a lot, in the record r, whose chain is whole stands before the lots that are read after it
  pub lot_read : (p : List Stage) (left above at : ℕ) → 0 < left → (at ≡ 0 → ⊥) → is_lot first w above at ≡ true → (r : Record) → record_at w at ≡ r
      → (v : Chain) → Some v ≡ chain_of (undecided_before p) (read_inspections first w at (serial_at w r.link) r.link)
      → (ls : List Lot) → read_lots first w (left - 1) r.value r.next ≡ some ls
      → (l : Lot) × (read_lots first w left above at ≡ some (l ∷ ls)) × (l.number ≡ r.value) × (length l.inspections ≡ units v.counts)
  lot_read p left above at l z e r g v h ls later =
      let is = chain_read (undecided_before p) (read_inspections first w at (serial_at w r.link) r.link) v h in
      let read = ap (λ (q : Record). read_inspections first w at (serial_at w q.link) q.link) g ∙ is.1 in
      rw (← g) (go is.0 read is.2 (rw (← g) at later))
    where
      go : (is : List Inspection) → read_inspections first w at (serial_at w (newest w at)) (newest w at) ≡ some is → length is ≡ units v.counts
          → read_lots first w (left - 1) (field w at 0) (next w at) ≡ some ls
          → (l : Lot) × (read_lots first w left above at ≡ some (l ∷ ls)) × (l.number ≡ field w at 0) × (length l.inspections ≡ units v.counts)
      go is read count later = (record { at = at; number = field w at 0; inspections = is }, rw (step left above at l z, e, read, later) refl, refl, count)

module _ (first : ℕ) (w : List ℕ) (p : List Stage) (n : ℕ) (f : Found) where
  pub no_lot : (left above at : ℕ) → at ≡ 0 → lots_survey p n f (read_lots first w left above at) ≡ Some f
  unfolding read_lots
  no_lot zero above at e = rw (eq-eqb at 0 e)
  no_lot (suc left) above at e = rw (eq-eqb at 0 e)

  pub none_left : (above at : ℕ) → (at ≡ 0 → ⊥) → lots_survey p n f (read_lots first w 0 above at) ≡ None
  unfolding read_lots
  none_left above at z = rw (ne_eqb at 0 z)

  pub not_lot : (left above at : ℕ) → 0 < left → (at ≡ 0 → ⊥) → is_lot first w above at ≡ false → lots_survey p n f (read_lots first w left above at) ≡ None
  not_lot left above at l z e = rw (step first w left above at l z, e)

  -- r is the lot's record, and v what its inspections gave
  pub next_lot : (left above at : ℕ) → 0 < left → (at ≡ 0 → ⊥) → is_lot first w above at ≡ true → (r : Record) → record_at w at ≡ r
      → (v : MayChain) → v ≡ chain_of (undecided_before p) (read_inspections first w at (serial_at w r.link) r.link)
      → lots_survey p n f (read_lots first w left above at) ≡ after_chain p n f at r.value v (read_lots first w (left - 1) r.value r.next)
  next_lot left above at l z e r g v h =
      let first_chain = h ∙ ap (λ (q : Record). chain_of (undecided_before p) (read_inspections first w at (serial_at w q.link) q.link)) (sym g) in
      rw (← g)
      (rw (step first w left above at l z, e, first_chain)
      (one_lot p n f at (field w at 0) (read_inspections first w at (serial_at w (newest w at)) (newest w at)) (read_lots first w (left - 1) (field w at 0) (next w at))))
