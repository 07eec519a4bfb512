-- What estimate replies, by what its code has tested: a decided lot has a newest unit. Without it, unless it is the only one, the
-- counts are those of the evidence. Assumes nothing.
use Prim.Native.Nat.{ℕ, zero, suc, ◌+◌, ◌-◌, ◌*◌, ◌≤◌, ◌<◌}
use mathlib.Core.Path.{◌≡◌, refl, ap, ◌∙◌}
use mathlib.Core.Logic.{inl, inr}
use mathlib.Core.Bool.{Bool, true, false, cond}
use mathlib.Core.List.{List, [], ◌∷◌}
use native.Mathlib.Omega.{arith}
use lib.ListN.{length, drop, length-take, length-drop}
use lib.Dec.{eqb}
use borrow.Author.Tests.{lt-ltb, le-ltb, ne_eqb}
use Rattle.plan.specs.declared.counts.Counts.{Counts}
use Rattle.plan.specs.Plan.{stages}
use Rattle.plan.specs.Counts.{counts, units, add_units}
use Rattle.plan.specs.Stopping.{earliest}
use Rattle.plan.proofs.Promise.{shape, counting}
use Rattle.sheetmodel.specs.declared.reply.Estimate.{Estimate}
use Rattle.std.specs.declared.result.Result.TheVariants.{Ok, Err}
use Rattle.plan.specs.declared.refusal.Refusal.{Refusal}
use Rattle.plan.specs.declared.refusal.Refusal.TheVariants as refusal
use Rattle.sheet.specs.declared.survey.Found.{Found}
use Rattle.sheetmodel.specs.Layout.{word, field, newest, next_unused, stage_count, first_record, plan_start, plan_words}
use Rattle.sheetmodel.specs.Contents.{Inspection, classes, history}
use Rattle.sheetmodel.specs.Holds.{Inspections}
use Rattle.sheetmodel.specs.Read.{undecided}
use Rattle.sheetmodel.specs.Rows.{lot_rows, estimate_own}
use Rattle.sheetmodel.specs.Calls.{standing}
use Rattle.sheetmodel.specs.History.{without_last}
use Rattle.sheetmodel.specs.Estimate.{evidence, estimate_of, estimate_rows, estimate}
use Rattle.sheet.specs.Estimating.{units_of_class, without_unit, evidence_counts}
use Rattle.sheet.specs.Writes.{InWords}
use Rattle.sheet.specs.Locating.{located}
use Rattle.sheetmodel.proofs.ForSheet.{classes_cons, has_unit, without_last_snoc, refuses, grants}
use Rattle.sheet.proofs.Sizes.{long_enough}
use Rattle.sheet.proofs.HeaderSteps.{few_stages}
use Rattle.sheet.proofs.Requires.{holds, on_chain}
use Rattle.sheet.proofs.LocatedFacts.{WithLot}
use Rattle.sheet.proofs.CallSteps.{at_is, counts_are, few, as_rows_ask, found_lot, past_lot, all_past_lot, first_rows}

-- a unit added can be taken away
pub some_unit : (x : ℕ) (d : Counts) → 1 ≤ units_of_class x (add_units x 1 d)
some_unit zero d = rw (counting.good 1 d) (omega arith)
some_unit (suc zero) d = rw (counting.marginal 1 1 d (λ e. omega arith) (λ e. omega arith)) (omega arith)
some_unit (suc (suc zero)) d = rw (counting.bad 1 d) (omega arith)
some_unit (suc (suc (suc x))) d =
    let n : ℕ = suc (suc (suc x)) in
    rw (counting.marginal n 1 d (λ e. omega arith) (λ e. omega arith), ne_eqb n 0 (λ e. omega arith), ne_eqb n 2 (λ e. omega arith)) (omega arith)

one_less : (n : ℕ) → n + 1 - 1 ≡ n
one_less n = omega arith

pub unit_taken : (x : ℕ) (d : Counts) → without_unit x (add_units x 1 d) ≡ d
unit_taken zero d = rw (counting.good 1 d, one_less d.good)
unit_taken (suc zero) d = rw (counting.marginal 1 1 d (λ e. omega arith) (λ e. omega arith), one_less d.marginal)
unit_taken (suc (suc zero)) d = rw (counting.bad 1 d, one_less d.bad)
unit_taken (suc (suc (suc x))) d =
    let n : ℕ = suc (suc (suc x)) in
    rw (counting.marginal n 1 d (λ e. omega arith) (λ e. omega arith), ne_eqb n 0 (λ e. omega arith), ne_eqb n 2 (λ e. omega arith), one_less d.marginal)

-- the newest unit of a lot, with the history h
pub record Newest (w : List ℕ) (f : Found) (h : List ℕ) : Type 0 where
  pub inside : InWords w (newest w f.at)
  pub counted : f.chain.counts ≡ add_units (field w (newest w f.at) 0) 1 (counts (without_last h))

module _ (n : ℕ) (w : List ℕ) where
  pub estimate_refused : (r : Refusal) → located n w (lot_rows (standing n w) []) ≡ Err r → estimate n w ≡ record { reply = Err r; words = w }
  unfolding estimate estimate_rows
  estimate_refused r e = refuses w _ w (estimate_rows n w) r (first_rows n w (estimate_own (plan_words w) (standing n w)) r e)

  module _ (f : Found) (k : WithLot n w f) where
    stages_are : length (stages (plan_words w)) ≡ word w stage_count
    stages_are =
        let long = long_enough w k.size in
        let plan = (holds w k.contents k.size k.reads).plan in
        let s = shape (plan_words w) plan in
        omega (arith, s.whole, few_stages w (omega arith) plan, length-take (5 * word w stage_count) (drop plan_start w), length-drop plan_start w)

    pub estimate_undecided : undecided (earliest (stages (plan_words w)) f.chain.counts) ≡ true → estimate n w ≡ record { reply = Err refusal.Undecided; words = w }
    unfolding estimate estimate_rows
    estimate_undecided u = refuses w _ w (estimate_rows n w) refusal.Undecided (past_lot n w f k (estimate_own (plan_words w) (standing n w)) refusal.Undecided (inl (as_rows_ask n w f k true u, refl)))

    module _ (u : undecided (earliest (stages (plan_words w)) f.chain.counts) ≡ false) where
      pub estimate_stages : 1 < word w stage_count → estimate n w ≡ record { reply = Err refusal.SeveralStages; words = w }
      unfolding estimate estimate_rows
      estimate_stages h =
          refuses w _ w (estimate_rows n w) refusal.SeveralStages
          (past_lot n w f k (estimate_own (plan_words w) (standing n w)) refusal.SeveralStages (inr (as_rows_ask n w f k false u, inl (rw stages_are (lt-ltb 1 (word w stage_count) h), refl))))

      newest_at : (is : List Inspection) → Inspections first_record w (word w next_unused) k.lot.at is (newest w k.lot.at) → f.chain.counts ≡ counts (classes is) → Newest w f (classes is)
      newest_at [] h e = absurd (omega (arith, has_unit (plan_words w) (holds w k.contents k.size k.reads).plan [] (rw e at u)))
      newest_at (i ∷ is) h e =
          let x = h.0 in
          let newest_is : newest w f.at ≡ i.at = ap (newest w) (at_is n w f k) ∙ x.here in
          let before : without_last (classes (i ∷ is)) ≡ classes is = ap without_last (classes_cons i is) ∙ without_last_snoc (classes is) i.class in
          let more : counts (classes (i ∷ is)) ≡ add_units i.class 1 (counts (classes is)) = ap counts (classes_cons i is) ∙ counting.one_more (classes is) i.class in
          record {
            inside = omega (arith, newest_is, x.high, (holds w k.contents k.size k.reads).room);
            counted = rw (newest_is, x.class, before) (e ∙ more);
          }

      pub newest_unit : Newest w f (history k.lot)
      newest_unit = newest_at k.lot.inspections (on_chain w k.contents k.size k.reads n k.lot k.finds).inspections (counts_are n w f k)

      -- the class of the newest unit
      abbrev last : ℕ
      last = field w (newest w f.at) 0

      older_are : without_unit last f.chain.counts ≡ counts (without_last (history k.lot))
      older_are = ap (without_unit last) newest_unit.counted ∙ unit_taken last (counts (without_last (history k.lot)))

      pub evidence_requires : (units f.chain.counts ≤ 1000) × (1 ≤ units_of_class last f.chain.counts)
      evidence_requires = (few n w f k, rw newest_unit.counted (some_unit last (counts (without_last (history k.lot)))))

      evidence_is : evidence_counts last f.chain.counts ≡ counts (evidence (history k.lot))
      evidence_is =
          let h = history k.lot in
          rw (older_are, counts_are n w f k, counting.length_of h) (go h (eqb (length h) 1))
        where
          go : (h : List ℕ) (b : Bool) → cond b (counts h) (counts (without_last h)) ≡ counts (cond b h (without_last h))
          go h true = refl
          go h false = refl

      pub evidence_few : units (evidence_counts last f.chain.counts) ≤ 1000
      evidence_few = go (eqb (units f.chain.counts) 1)
        where
          go : (b : Bool) → units (cond b f.chain.counts (without_unit last f.chain.counts)) ≤ 1000
          go true = few n w f k
          go false =
              let older = counts (without_last (history k.lot)) in
              rw older_are (omega (arith, few n w f k, ap units newest_unit.counted, counting.added last 1 older))

      pub estimate_granted : word w stage_count ≤ 1 → (c : Counts) → c ≡ evidence_counts last f.chain.counts →
          estimate n w ≡ record { reply = Ok (record { good = c.good; marginal = c.marginal; bad = c.bad; over = units c }); words = w }
      unfolding estimate estimate_rows
      estimate_granted h c e =
          let same : estimate_of (stages (plan_words w)) (history k.lot) ≡ record { good = c.good; marginal = c.marginal; bad = c.bad; over = units c } =
          rw (e ∙ evidence_is, counting.length_of (evidence (history k.lot))) in
          grants w _ w (estimate_rows n w)
          (all_past_lot n w f k (estimate_own (plan_words w) (standing n w)) (as_rows_ask n w f k false u, (rw stages_are (le-ltb 1 (word w stage_count) h), tt))) ∙
          rw (found_lot n w f k) (ap (λ (x : Estimate). record { reply = Ok x; words = w }) same)
