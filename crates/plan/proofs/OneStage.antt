-- A plan of one stage: full and earliest agree, and full by the stage's words.
-- Assumes nothing.
use Prim.Native.Nat.{ℕ, ◌+◌, ◌-◌, ◌≤◌, ◌<◌}
use mathlib.Core.Path.{◌≡◌, refl, sym, subst, ap, ap₂, ◌∙◌}
use mathlib.Core.Logic.{◌↔◌, ◌⊎◌, inl, inr, ⊎_elim}
use mathlib.Core.Bool.{Bool, true, false}
use mathlib.Core.List.{List, [], ◌∷◌}
use native.Mathlib.Omega.{arith}
use native.Mathlib.Decide.{dec_lt}
use lib.ListN.{length, get_or}
use lib.Dec.{leb}
use borrow.Author.Tests.{leb-true, eqb-true}
use Rattle.plan.specs.declared.counts.Counts.{Counts}
use Rattle.plan.specs.declared.stage.Answer.{Answer}
use Rattle.plan.specs.declared.stage.Answer.TheVariants.{GoOn, Accept, Reject}
use Rattle.plan.specs.declared.ways.StageWay.TheVariants.{Full}
use Rattle.plan.specs.declared.stage.Stage.{Stage}
use Rattle.plan.specs.Plan.{stages, first, total, marked, ahead, numbered, admitted, each, apart, last}
use Rattle.plan.specs.Counts.{units, nongood, nonbad, add_units}
use Rattle.plan.specs.Stopping.{or_else, rejects, accepts, decide, at_end, full_at, at_filled, settled, staged, earliest, at_stage, first_answer, completed, only_reject}
use Rattle.plan.specs.Promise.{OneStage}
use Rattle.plan.proofs.Bools.{and_left}
use Rattle.plan.proofs.Answers.{accept_stops}
use Rattle.plan.proofs.Decide.{decided_reject, decided_accept, decided_on, when_reject, when_accept, when_on}
use Rattle.plan.proofs.StageTests.{rejects_from, rejects_reaches, rejects_same, not_rejects_below, not_rejects_is, fewer_accepted}
use Rattle.plan.proofs.Ends.{current_here, current_past, end_past, end_due}
use Rattle.plan.proofs.Marked.{none_ahead, all_numbered, one_numbered}
use Rattle.plan.proofs.Limits.{Sound, Decides, Limits, tests, limits}
use Rattle.plan.proofs.Stages.{stages_one}
use Rattle.plan.proofs.Counting.{add_good, add_bad}

or_else_none : (a : Answer) → or_else a GoOn ≡ a
unfolding or_else
or_else_none GoOn = refl
or_else_none Accept = refl
or_else_none Reject = refl

-- full and the two cases, by their tests: W and A are rejection and acceptance of the worst case, R rejection of the best
by_tests : (W A R B : Bool) → (A ≡ true → W ≡ false) → (W ≡ false → A ≡ true) → (A ≡ true → R ≡ false)
    → decide R A ≡ settled (decide W A) (decide R B)
unfolding only_reject settled
by_tests W true R B f g h = rw (decided_accept R true (h refl) refl, decided_accept W true (f refl) refl)
by_tests false false R B f g h = cc (g refl)
by_tests true false true B f g h = rw (decided_reject true false refl, decided_reject true B refl)
by_tests true false false true f g h = rw (decided_on false false refl refl, decided_reject true false refl, decided_accept false true refl refl)
by_tests true false false false f g h = rw (decided_on false false refl refl, decided_reject true false refl)

-- the only stage, which ends after n units
module _ (s : Stage) (n : ℕ) (sound : Sound n s) (last : Decides s) (c : Counts) (u : units c ≤ n) where
  -- with every unit left bad, and with every unit left good
  abbrev worst : Counts
  worst = add_units 2 (n - units c) c

  abbrev best : Counts
  best = add_units 0 (n - units c) c

  worst_bad : (add_units 2 (n - units c) c).bad ≡ n - nonbad c
  worst_bad = rw add_bad (omega arith)

  worst_nongood : nongood (add_units 2 (n - units c) c) ≡ n - c.good
  worst_nongood = rw add_bad (omega arith)

  best_same : rejects s (add_units 0 (n - units c) c) ≡ rejects s c
  best_same = rejects_same s c best (rw add_good refl) (rw add_good refl)

  -- full is rejection now and acceptance of the worst case
  full_is : full_at n s c ≡ decide (rejects s c) (accepts s worst.bad (nongood worst))
  unfolding full_at
  full_is = ap (decide (rejects s c)) (sym (ap₂ (accepts s) worst_bad worst_nongood))

  not_now : accepts s worst.bad (nongood worst) ≡ true → rejects s c ≡ false
  not_now e = sound.not_both c (fewer_accepted s worst.bad (nongood worst) c.bad (nongood c) (omega (arith, worst_bad)) (omega (arith, worst_nongood)) e)

  agree_here : full_at n s c ≡ settled (or_else (at_filled 2 c n s) GoOn) (or_else (at_filled 0 c n s) GoOn)
  unfolding at_end
  agree_here =
      rw (full_is, or_else_none (at_filled 2 c n s), or_else_none (at_filled 0 c n s), end_due 2 c n s u, end_due 0 c n s u, best_same)
      (by_tests (rejects s worst) (accepts s worst.bad (nongood worst)) (rejects s c) _ (sound.not_both worst) (last worst) not_now)

  -- full in numbers
  accepts_if : (full_at n s c ≡ Accept) ↔ ((n < nonbad c + s.reject2) × (n < c.good + s.reject1))
  accepts_if = (
    (λ e.
        let t = not_rejects_is s worst (sound.not_both worst (when_accept _ _ (sym full_is ∙ e)).1) in
        (omega (arith, t.0, worst_bad), omega (arith, t.1, worst_nongood))),
    λ h.
        let a = last worst (not_rejects_below s worst (omega (arith, worst_bad, sound.reject2)) (omega (arith, worst_nongood, sound.reject1))) in
        full_is ∙ decided_accept _ _ (not_now a) a,
  )

  rejects_if : (full_at n s c ≡ Reject) ↔ ((s.reject1 ≤ nongood c) ⊎ (s.reject2 ≤ c.bad))
  rejects_if = ((λ e. rejects_reaches s c (when_reject _ _ (sym full_is ∙ e))), λ h. full_is ∙ decided_reject _ _ (rejects_from s c h))

  goes_on_if : (full_at n s c ≡ GoOn)
      ↔ ((c.bad < s.reject2) × (nongood c < s.reject1) × ((nonbad c + s.reject2 ≤ n) ⊎ (c.good + s.reject1 ≤ n)))
  goes_on_if = (to, λ h. from h (full_at n s c) refl)
    where
      short : full_at n s c ≡ GoOn → Dec (n < nonbad c + s.reject2) → Dec (n < c.good + s.reject1) → (nonbad c + s.reject2 ≤ n) ⊎ (c.good + s.reject1 ≤ n)
      short e (no k) d = inl (omega arith)
      short e (yes k) (no m) = inr (omega arith)
      short e (yes k) (yes m) = absurd (accept_stops (sym (accepts_if.1 (k, m)) ∙ e))

      to : full_at n s c ≡ GoOn → (c.bad < s.reject2) × (nongood c < s.reject1) × ((nonbad c + s.reject2 ≤ n) ⊎ (c.good + s.reject1 ≤ n))
      to e = let r = not_rejects_is s c (when_on _ _ (sym full_is ∙ e)).0 in (r.0, r.1, short e (dec_lt _ _) (dec_lt _ _))

      from : (c.bad < s.reject2) × (nongood c < s.reject1) × ((nonbad c + s.reject2 ≤ n) ⊎ (c.good + s.reject1 ≤ n)) → (a : Answer) → full_at n s c ≡ a → full_at n s c ≡ GoOn
      from h GoOn e = e
      from h Accept e = let t = accepts_if.0 e in absurd (⊎_elim (λ k. omega (arith, t.0)) (λ k. omega (arith, t.1)) h.2)
      from h Reject e = absurd (⊎_elim (λ k. omega (arith, h.1)) (λ k. omega (arith, h.0)) (rejects_if.0 e))

agree : (s : Stage) → Sound (0 + s.size) s → Decides s → (c : Counts) → staged Full (s ∷ []) c ≡ earliest (s ∷ []) c
unfolding staged earliest total or_else at_stage first_answer completed only_reject settled
agree s sound last c = go (dec_lt (0 + s.size) (units c))
  where
    go : Dec (0 + s.size < units c) → staged Full (s ∷ []) c ≡ earliest (s ∷ []) c
    go (no l) = current_here full_at 0 s [] c (omega arith) ∙ agree_here s (0 + s.size) sound last c (omega arith)
    go (yes l) =
        current_past full_at 0 (s ∷ []) c (omega arith)
        ∙ ap₂ settled (sym (ap (λ (a : Answer). or_else a GoOn) (end_past 2 c (0 + s.size) s l))) (sym (ap (λ (a : Answer). or_else a GoOn) (end_past 0 c (0 + s.size) s l)))

pub one_stage : (p : List Stage) → Limits p → length p ≡ 1 → (c : Counts) → staged Full p c ≡ earliest p c
one_stage [] l e c = absurd (omega arith)
one_stage (s ∷ []) l e c = agree s l.sound.0 l.last c
one_stage (s ∷ t ∷ rest) l e c = absurd (omega arith)

-- the stage's words
last_within : (s : Stage) → leb s.reject1 (0 + total [] + total (s ∷ [])) ≡ true → s.reject1 ≤ s.size
unfolding total
last_within s e = omega (arith, leb-true s.reject1 (0 + 0 + (s.size + 0)) e)

units_within : (s : Stage) → leb (0 + total [] + total (s ∷ [])) 1000 ≡ true → s.size ≤ 1000
unfolding total
units_within s e = omega (arith, leb-true (0 + 0 + (s.size + 0)) 1000 e)

at_stage_one : (s : Stage) (c : Counts) → units c ≤ s.size → staged Full (s ∷ []) c ≡ full_at s.size s c
unfolding staged at_stage
at_stage_one s c u =
    let n : 0 + s.size ≡ s.size = omega arith in
    current_here full_at 0 s [] c (omega arith) ∙ ap (λ (k : ℕ). full_at k s c) n

past_one : (s : Stage) (c : Counts) → s.size < units c → staged Full (s ∷ []) c ≡ GoOn
unfolding staged total at_stage
past_one s c u = current_past full_at 0 (s ∷ []) c (omega arith)

pub one_stage_words : (w : List ℕ) → admitted w ≡ true → length w ≡ 5 → OneStage w
unfolding first each apart last
one_stage_words w e n =
    let t = tests w e in
    let s : Stage = first w in
    let whole : 5 ≤ length w = omega arith in
    let only : stages w ≡ first w ∷ [] = stages_one w (omega arith) in
    let unmarked : marked (first w) ≡ false = one_numbered (first w) (leb-true 1 (length (numbered (first w ∷ []))) (rw only at t.some_numbered)) in
    let all : numbered (stages w) ≡ first w ∷ [] = ap numbered only ∙ all_numbered (first w) [] unmarked in
    let none : ahead (stages w) ≡ [] = ap ahead only ∙ none_ahead (first w) [] unmarked in
    let l : Limits (first w ∷ []) = rw only at (limits w e) in
    let sound : Sound (first w).size (first w) = subst (λ (k : ℕ). Sound k (first w)) (omega arith) l.sound.0 in
    record {
      row1 = eqb-true _ _ (rw all at t.apart1);
      row2 = eqb-true _ _ (rw all at t.apart2);
      rows = leb-true _ _ (and_left (leb (get_or w 4 0) (get_or w 2 0)) true (rw all at t.crossed));
      within = last_within (first w) (rw (all, none) at t.within1);
      thousand = units_within (first w) (rw (all, none) at t.thousand);
      full_accepts = λ c u. rw (only, at_stage_one s c u) (accepts_if s s.size sound l.last c u);
      full_rejects = λ c u. rw (only, at_stage_one s c u) (rejects_if s s.size sound l.last c u);
      full_goes_on = λ c u. rw (only, at_stage_one s c u) (goes_on_if s s.size sound l.last c u);
      past = λ c u. rw only (past_one (first w) c u);
    }
