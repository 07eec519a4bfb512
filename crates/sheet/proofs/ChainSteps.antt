-- One step along a chain of inspections, as the code takes it. Assumes nothing.
use Prim.Native.Nat.{ℕ, zero, suc, ◌+◌, ◌-◌, ◌*◌, ◌/◌, ◌≤◌, ◌<◌}
use mathlib.Core.Path.{◌≡◌, refl, sym, ap, ◌∙◌}
use mathlib.Core.Logic.{◌≢◌}
use mathlib.Core.Bool.{Bool, true, false, cond, ◌&&◌, and-false}
use mathlib.Core.Option.{Option, none, some}
use mathlib.Core.List.{List, [], ◌∷◌}
use native.Mathlib.Omega.{arith}
use native.Mathlib.Decide.{dec_lt}
use lib.ListN.{length}
use lib.Dec.{eqb}
use borrow.Author.Tests.{eq-eqb, ne_eqb}
use Rattle.plan.specs.declared.counts.Counts.{Counts}
use Rattle.plan.specs.declared.stage.Stage.{Stage}
use Rattle.plan.specs.Plan.{end_below}
use Rattle.plan.specs.Counts.{units, no_units, add_units, both, counts}
use Rattle.plan.specs.declared.stage.Answer.TheVariants.{GoOn}
use Rattle.plan.specs.Stopping.{earliest}
use Rattle.std.specs.Prelude.{Some, None}
use Rattle.std.specs.Prelude as std
use Rattle.plan.specs.Blanks.{blank, one_blank, blanks}
use Rattle.plan.proofs.Promise.{counting}
use Rattle.plan.proofs.Blanks.{blank_laws}
use Rattle.sheet.specs.declared.record.Record.{Record}
use Rattle.sheet.specs.declared.chain.Chain.{Chain}
use Rattle.sheet.specs.declared.chain.Part.{Part}
use Rattle.plan.specs.Sample.{highest_class}
use Rattle.sheetmodel.specs.Layout.{field, next}
use Rattle.sheetmodel.specs.Contents.{Inspection, classes}
use Rattle.sheetmodel.specs.Read.{guard, then, read_inspections}
use Rattle.sheet.specs.Survey.{record_at, is_inspection, may_go_on, next_test, tested, as_chain, chain_of, SumsFit, by_sums, no_chain, with_class, if_undecided, with_newer, with_older, newer_part}
use Rattle.sheetmodel.proofs.ForSheet.{classes_cons, units_of, sound_inspections}

-- a chain that may be damaged
abbrev pub MayChain : Type 0
MayChain = std.Option Chain

-- a chain with one newer inspection of class x
abbrev one_newer : ℕ → MayChain → MayChain
one_newer x None = None
one_newer x (Some v) = Some (with_class x v)

-- a chain of n inspections, undecided if n is the number to be tested
abbrev pub going_on : List Stage → ℕ → ℕ → MayChain → MayChain
going_on p test n None = None
going_on p test n (Some v) = cond (may_go_on p test n v.counts) (Some v) None

same_counts : {g g' m m' b b' : ℕ} → g ≡ g' → m ≡ m' → b ≡ b'
    → ◌≡◌ {A = Counts} (record { good = g; marginal = m; bad = b }) (record { good = g'; marginal = m'; bad = b' })
same_counts e f g = cc

same_chain : {c d : Counts} {k j : ℕ} → c ≡ d → k ≡ j → ◌≡◌ {A = Chain} (record { counts = c; blanks = k }) (record { counts = d; blanks = j })
same_chain e f = cc

chain_counted : (i : Inspection) (is : List Inspection) → as_chain (i ∷ is) ≡ with_class i.class (as_chain is)
chain_counted i is =
    same_chain
    (ap counts (classes_cons i is) ∙ counting.one_more (classes is) i.class)
    (ap blanks (classes_cons i is) ∙ blank_laws.one_more (classes is) i.class)

-- n inspections are older, if any are read
one_more : (p : List Stage) (test n : ℕ) (i : Inspection) (older : Option (List Inspection)) → ((is : List Inspection) → older ≡ some is → length is ≡ n)
    → chain_of (tested p test) (then older (λ is. some (i ∷ is))) ≡ one_newer i.class (going_on p test n (chain_of (tested p (next_test p test n)) older))
one_more p test n i none l = refl
one_more p test n i (some is) l = rw (l is refl) (go (tested p (next_test p test n) is) (may_go_on p test n (counts (classes is))) refl)
  where
    go : (t m : Bool) → may_go_on p test n (counts (classes is)) ≡ m
        → cond (m && t) (Some (as_chain (i ∷ is))) None ≡ one_newer i.class (going_on p test n (cond t (Some (as_chain is)) None))
    go true true e = rw e (ap Some (chain_counted i is))
    go true false e = rw e
    go false m e = rw (and-false m)

-- one unit more, by cases on the class
one_good : (c : Counts) → add_units 0 1 c ≡ record { good = c.good + 1; marginal = c.marginal; bad = c.bad }
one_good c = counting.good 1 c

one_bad : (c : Counts) → add_units 2 1 c ≡ record { good = c.good; marginal = c.marginal; bad = c.bad + 1 }
one_bad c = counting.bad 1 c

one_marginal : (x : ℕ) → x ≢ 0 → x ≢ 2 → (c : Counts) → add_units x 1 c ≡ record { good = c.good; marginal = c.marginal + 1; bad = c.bad }
one_marginal x n m c = counting.marginal x 1 c n m

one_blank_is : (x : ℕ) → x ≤ highest_class → x / 3 ≡ one_blank x
one_blank_is zero l = omega arith
one_blank_is (suc zero) l = omega arith
one_blank_is (suc (suc zero)) l = omega arith
one_blank_is (suc (suc (suc zero))) l = omega arith
one_blank_is (suc (suc (suc (suc x)))) l = absurd (omega arith)

-- the sums with one class more are those of one unit more
pub sums_fit : (n sum halves thirds x : ℕ) → SumsFit n sum halves thirds → x ≤ highest_class → SumsFit (n + 1) (sum + x) (halves + x / 2) (thirds + x / 3)
sums_fit n sum halves thirds x f l = record {
  marginal = omega (arith, f.marginal);
  bad = omega (arith, f.bad);
  good = omega (arith, f.good);
  most = omega (arith, f.most);
}

-- the chain of n inspections with these sums; the thirds are the blanks
abbrev pub chain_by_sums : ℕ → ℕ → ℕ → ℕ → Chain
chain_by_sums n sum halves thirds = record { counts = by_sums n sum halves thirds; blanks = thirds }

one_sum_more : (n sum halves thirds x : ℕ) → SumsFit n sum halves thirds → x ≤ highest_class
    → by_sums (n + 1) (sum + x) (halves + x / 2) (thirds + x / 3) ≡ add_units x 1 (by_sums n sum halves thirds)
one_sum_more n sum halves thirds x f l = go x l f.marginal f.bad f.good
  where
    go : (x : ℕ) → x ≤ highest_class → 2 * halves ≤ sum → thirds ≤ halves → sum ≤ n + halves + thirds
        → by_sums (n + 1) (sum + x) (halves + x / 2) (thirds + x / 3) ≡ add_units x 1 (by_sums n sum halves thirds)
    go zero l a b c = same_counts (omega arith) (omega arith) (omega arith) ∙ sym (one_good _)
    go (suc zero) l a b c = same_counts (omega arith) (omega arith) (omega arith) ∙ sym (one_marginal 1 (λ e. omega arith) (λ e. omega arith) _)
    go (suc (suc zero)) l a b c = same_counts (omega arith) (omega arith) (omega arith) ∙ sym (one_bad _)
    go (suc (suc (suc zero))) l a b c = same_counts (omega arith) (omega arith) (omega arith) ∙ sym (one_marginal 3 (λ e. omega arith) (λ e. omega arith) _)
    go (suc (suc (suc (suc x)))) l a b c = absurd (omega arith)

pub one_class_more : (n sum halves thirds x : ℕ) → SumsFit n sum halves thirds → x ≤ highest_class
    → chain_by_sums (n + 1) (sum + x) (halves + x / 2) (thirds + x / 3) ≡ with_class x (chain_by_sums n sum halves thirds)
one_class_more n sum halves thirds x f l = same_chain (one_sum_more n sum halves thirds x f l) (omega (arith, one_blank_is x l))

-- the good units are those that are left
pub good_left : (n sum halves thirds : ℕ) → SumsFit n sum halves thirds → n - (sum - 2 * halves) - (halves - thirds) ≡ n + halves + thirds - sum
good_left n sum halves thirds f = omega (arith, f.marginal, f.bad, f.good)

-- at most one
few_blanks : (x : ℕ) → one_blank x ≤ 1
few_blanks x = go (eqb x blank)
  where
    go : (b : Bool) → cond b 1 0 ≤ 1
    go true = omega arith
    go false = omega arith

-- units move from the older to the newer ones
moved : (x : ℕ) (c d : Counts) → both (add_units x 1 c) d ≡ both c (add_units x 1 d)
moved x c d = go (dec_lt 0 x) (dec_lt x 2) (dec_lt 2 x)
  where
    marginal_moved : x ≢ 0 → x ≢ 2 → both (add_units x 1 c) d ≡ both c (add_units x 1 d)
    marginal_moved n m = rw (one_marginal x n m c, one_marginal x n m d) (same_counts refl (omega arith) refl)

    go : Dec (0 < x) → Dec (x < 2) → Dec (2 < x) → both (add_units x 1 c) d ≡ both c (add_units x 1 d)
    go (no l) k m = let z : x ≡ 0 = omega arith in rw (z, one_good c, one_good d) (same_counts (omega arith) refl refl)
    go (yes l) (yes k) m = marginal_moved (λ e. omega arith) (λ e. omega arith)
    go (yes l) (no k) (yes m) = marginal_moved (λ e. omega arith) (λ e. omega arith)
    go (yes l) (no k) (no m) = let z : x ≡ 2 = omega arith in rw (z, one_bad c, one_bad d) (same_counts refl refl (omega arith))

newer_moved : (x : ℕ) (u : Chain) (v : MayChain) → with_newer u (one_newer x v) ≡ with_newer (with_class x u) v
newer_moved x u None = refl
newer_moved x u (Some v) = ap Some (same_chain (moved x v.counts u.counts) (omega arith))

none_newer : (v : MayChain) → with_newer no_chain v ≡ v
none_newer None = refl
none_newer (Some v) = ap Some (same_chain (same_counts (omega arith) (omega arith) (omega arith)) (omega arith))

module _ (first : ℕ) (w : List ℕ) (lot : ℕ) where
  -- at the end of a chain
  pub ended : (test : List Inspection → Bool) (at : ℕ) → at ≡ 0 → test [] ≡ true → chain_of test (read_inspections first w lot 0 at) ≡ Some no_chain
  unfolding read_inspections
  ended test at e t = rw (eq-eqb at 0 e, t) (ap Some (same_chain counting.empty blank_laws.none))

  pub not_ended : (test : List Inspection → Bool) (at : ℕ) → (at ≡ 0 → ⊥) → chain_of test (read_inspections first w lot 0 at) ≡ None
  unfolding read_inspections
  not_ended test at n = rw (ne_eqb at 0 n)

  -- before it
  step : (n at : ℕ) → 0 < n → read_inspections first w lot n at ≡
      guard (is_inspection first w lot n at) (λ ok. then (read_inspections first w lot (n - 1) (next w at)) (λ is. some (record { at = at; class = field w at 0 } ∷ is)))
  unfolding read_inspections
  step zero at l = absurd (omega arith)
  step (suc n) at l = let m : suc n - 1 ≡ n = omega arith in rw m

  pub cut_here : (test : List Inspection → Bool) (n at : ℕ) → 0 < n → is_inspection first w lot n at ≡ false → chain_of test (read_inspections first w lot n at) ≡ None
  cut_here test n at l e = rw (step n at l, e)

  -- the older inspections where n are left, from the record `at` on
  abbrev rest : List Stage → ℕ → ℕ → ℕ → MayChain
  rest p test n at = going_on p test n (chain_of (tested p (next_test p test n)) (read_inspections first w lot n at))

  further : (p : List Stage) (test n at : ℕ) → 0 < n → is_inspection first w lot n at ≡ true
      → chain_of (tested p test) (read_inspections first w lot n at) ≡ one_newer (field w at 0) (rest p test (n - 1) (next w at))
  further p test n at l e =
      rw (step n at l, e)
      (one_more p test (n - 1) (record { at = at; class = field w at 0 }) (read_inspections first w lot (n - 1) (next w at))
      (λ is f. sym (sound_inspections first w lot (n - 1) (next w at) is f).1))

  -- n is not the number to be tested
  not_tested : (p : List Stage) (test n at : ℕ) → test < n → rest p test n at ≡ chain_of (tested p test) (read_inspections first w lot n at)
  not_tested p test n at l = rw (ne_eqb n test (λ e. omega arith)) (go (chain_of (tested p test) (read_inspections first w lot n at)))
    where
      go : (v : MayChain) → going_on p test n v ≡ v
      go None = refl
      go (Some v) = rw (ne_eqb n test (λ e. omega arith))

  -- n is
  is_tested : (p : List Stage) (test n at : ℕ) → n ≡ test
      → rest p test n at ≡ if_undecided p (chain_of (tested p (end_below 0 p test)) (read_inspections first w lot test at))
  is_tested p test n at e = rw (e, eq-eqb test test refl) (go (chain_of (tested p (end_below 0 p test)) (read_inspections first w lot test at)))
    where
      go : (v : MayChain) → going_on p test test v ≡ if_undecided p v
      go None = refl
      go (Some v) = rw (eq-eqb test test refl)

  -- the newer inspections, passed one by one: u are those passed; n are left from the record `at` on
  part_start : (p : List Stage) (test n at : ℕ) → test < n → chain_of (tested p test) (read_inspections first w lot n at) ≡ with_newer no_chain (rest p test n at)
  part_start p test n at l = sym (none_newer (rest p test n at) ∙ not_tested p test n at l)

  part_cut : (p : List Stage) (test n at : ℕ) (u : Chain) → test < n → is_inspection first w lot n at ≡ false → with_newer u (rest p test n at) ≡ None
  part_cut p test n at u l e = ap (with_newer u) (not_tested p test n at l ∙ cut_here (tested p test) n at (omega arith) e)

  part_step : (p : List Stage) (test n at : ℕ) (u : Chain) → test < n → is_inspection first w lot n at ≡ true
      → with_newer u (rest p test n at) ≡ with_newer (with_class (field w at 0) u) (rest p test (n - 1) (next w at))
  part_step p test n at u l e =
      ap (with_newer u) (not_tested p test n at l ∙ further p test n at (omega arith) e) ∙ newer_moved (field w at 0) u (rest p test (n - 1) (next w at))

  part_done : (p : List Stage) (test n at : ℕ) (u : Chain) → n ≡ test → with_newer u (rest p test n at) ≡ with_older p first w lot test (Some (record { chain = u; next = at }))
  part_done p test n at u e = ap (with_newer u) (is_tested p test n at e)

  -- the newer inspections r are passed: no older one is left, or v is what the older ones gave
  module _ (p : List Stage) (test : ℕ) (r : Part) where
    none_older : earliest p no_units ≡ GoOn → test ≡ 0 → with_older p first w lot test (Some r) ≡ cond (eqb r.next 0) (Some r.chain) None
    none_older u e = rw e (go (dec_lt 0 r.next))
      where
        go : Dec (0 < r.next) → with_older p first w lot 0 (Some r) ≡ cond (eqb r.next 0) (Some r.chain) None
        go (yes l) = rw (ne_eqb r.next 0 (λ e. omega arith), not_ended (tested p (end_below 0 p 0)) r.next (λ e. omega arith))
        go (no l) =
            let z : r.next ≡ 0 = omega arith in
            rw (eq-eqb r.next 0 z, ended (tested p (end_below 0 p 0)) r.next z refl, u)
            (ap Some (same_chain (same_counts (omega arith) (omega arith) (omega arith)) (omega arith)))

    older_by : (below : ℕ) → below ≡ end_below 0 p test → (v : MayChain) → v ≡ chain_of (tested p below) (read_inspections first w lot test r.next)
        → with_older p first w lot test (Some r) ≡ with_newer r.chain (if_undecided p v)
    older_by below e v f = rw (f, e)

  -- the units of a whole chain are as many as its inspections, and its blanks no more
  pub whole_units : (test : List Inspection → Bool) (n at : ℕ) (v : Chain) → Some v ≡ chain_of test (read_inspections first w lot n at) → (units v.counts ≡ n) × (v.blanks ≤ n)
  whole_units test n at v = go (read_inspections first w lot n at) refl
    where
      go : (o : Option (List Inspection)) → read_inspections first w lot n at ≡ o → Some v ≡ chain_of test o → (units v.counts ≡ n) × (v.blanks ≤ n)
      go none e f = absurd (cc)
      go (some is) e f = tested_one (test is) f
        where
          tested_one : (b : Bool) → Some v ≡ cond b (Some (as_chain is)) None → (units v.counts ≡ n) × (v.blanks ≤ n)
          tested_one true g =
              let same : v ≡ as_chain is = cc in
              let all : units (counts (classes is)) ≡ n = units_of is ∙ sym (sound_inspections first w lot n at is e).1 in
              rw same (all, omega (arith, all, blank_laws.within (classes is)))
          tested_one false g = absurd (cc)

  -- ---- the newer inspections at once

  newer_step : (stop n at : ℕ) (u : Chain) → stop < n
      → newer_part first w lot stop (n - stop) at u
      ≡ cond (is_inspection first w lot n at) (newer_part first w lot stop (n - 1 - stop) (next w at) (with_class (field w at 0) u)) None
  unfolding newer_part
  newer_step stop n at u l =
      let one : n - stop ≡ suc (n - 1 - stop) = omega arith in
      let all : stop + suc (n - 1 - stop) ≡ n = omega arith in
      rw (one, all)

  pub newer_cut : (stop n at : ℕ) (u : Chain) → stop < n → is_inspection first w lot n at ≡ false → newer_part first w lot stop (n - stop) at u ≡ None
  newer_cut stop n at u l e = newer_step stop n at u l ∙ rw e

  -- r is the record
  pub newer_more : (stop n at : ℕ) (u : Chain) → stop < n → is_inspection first w lot n at ≡ true → (r : Record) → record_at w at ≡ r
      → newer_part first w lot stop (n - stop) at u ≡ newer_part first w lot stop (n - 1 - stop) r.next (with_class r.value u)
  newer_more stop n at u l e r f = rw (← f) (newer_step stop n at u l ∙ rw e)

  pub newer_done : (stop at : ℕ) (u : Chain) → newer_part first w lot stop (stop - stop) at u ≡ Some (record { chain = u; next = at })
  unfolding newer_part
  newer_done stop at u = let none : stop - stop ≡ 0 = omega arith in rw none

  newer_chain_of : (p : List Stage) (stop n at : ℕ) (u : Chain) → with_newer u (rest p stop (stop + n) at) ≡ with_older p first w lot stop (newer_part first w lot stop n at u)
  unfolding newer_part
  newer_chain_of p stop zero at u = part_done p stop (stop + 0) at u (omega arith)
  newer_chain_of p stop (suc n) at u = go (is_inspection first w lot (stop + suc n) at) refl (newer_chain_of p stop n (next w at) (with_class (field w at 0) u))
    where
      go : (b : Bool) → is_inspection first w lot (stop + suc n) at ≡ b
          → with_newer (with_class (field w at 0) u) (rest p stop (stop + n) (next w at)) ≡ with_older p first w lot stop (newer_part first w lot stop n (next w at) (with_class (field w at 0) u))
          → with_newer u (rest p stop (stop + suc n) at) ≡ with_older p first w lot stop (cond b (newer_part first w lot stop n (next w at) (with_class (field w at 0) u)) None)
      go true e later =
          part_step p stop (stop + suc n) at u (omega arith) e ∙
          ap (λ (m : ℕ). with_newer (with_class (field w at 0) u) (rest p stop m (next w at))) {x = stop + suc n - 1} {y = stop + n} (omega arith) ∙ later
      go false e later = part_cut p stop (stop + suc n) at u (omega arith) e

  -- whatever the plan, the newer inspections and the older ones are the whole chain
  newer_chain : (p : List Stage) (stop n at : ℕ) → stop < n → (r : std.Option Part) → r ≡ newer_part first w lot stop (n - stop) at no_chain
      → chain_of (tested p stop) (read_inspections first w lot n at) ≡ with_older p first w lot stop r
  newer_chain p stop n at l r e =
      part_start p stop n at l ∙
      ap (λ (m : ℕ). with_newer no_chain (rest p stop m at)) {x = n} {y = stop + (n - stop)} (omega arith) ∙
      newer_chain_of p stop (n - stop) at no_chain ∙ ap (with_older p first w lot stop) (sym e)

  pub cut : (p : List Stage) (test n at : ℕ) → test < n → None ≡ newer_part first w lot test (n - test) at no_chain
      → chain_of (tested p test) (read_inspections first w lot n at) ≡ None
  cut p test n at l e = newer_chain p test n at l None e

  -- no more units and blanks than inspections
  newer_few : (stop n at : ℕ) (u : Chain) (r : Part) → Some r ≡ newer_part first w lot stop n at u → (units r.chain.counts ≤ units u.counts + n) × (r.chain.blanks ≤ u.blanks + n)
  unfolding newer_part
  newer_few stop zero at u r e = let same : r ≡ record { chain = u; next = at } = cc in rw same (omega arith, omega arith)
  newer_few stop (suc n) at u r e = go (is_inspection first w lot (stop + suc n) at) e (newer_few stop n (next w at) (with_class (field w at 0) u) r)
    where
      go : (b : Bool) → Some r ≡ cond b (newer_part first w lot stop n (next w at) (with_class (field w at 0) u)) None
          → (Some r ≡ newer_part first w lot stop n (next w at) (with_class (field w at 0) u) → (units r.chain.counts ≤ units (add_units (field w at 0) 1 u.counts) + n) × (r.chain.blanks ≤ u.blanks + one_blank (field w at 0) + n))
          → (units r.chain.counts ≤ units u.counts + suc n) × (r.chain.blanks ≤ u.blanks + suc n)
      go true f later = let few = later f in (omega (arith, few.0, counting.added (field w at 0) 1 u.counts), omega (arith, few.1, few_blanks (field w at 0)))
      go false f later = absurd (cc)

  newer_units : (stop n at : ℕ) (r : Part) → Some r ≡ newer_part first w lot stop (n - stop) at no_chain → (units r.chain.counts ≤ n - stop) × (r.chain.blanks ≤ n - stop)
  newer_units stop n at r e = let few = newer_few stop (n - stop) at no_chain r e in (omega (arith, few.0), omega (arith, few.1))

  -- ---- a chain in two parts: r is what the newer inspections gave, and v the older ones

  module _ (p : List Stage) (test n at : ℕ) (later : test < n) (r : Part) (newer : Some r ≡ newer_part first w lot test (n - test) at no_chain) where
    pub by_parts : (below : ℕ) → below ≡ end_below 0 p test → (v : MayChain) → v ≡ chain_of (tested p below) (read_inspections first w lot test r.next)
        → chain_of (tested p test) (read_inspections first w lot n at) ≡ with_newer r.chain (if_undecided p v)
    by_parts below e v f = newer_chain p test n at later (Some r) newer ∙ older_by p test r below e v f

    -- both have no more units and blanks than inspections
    pub few : (below : ℕ) (v : Chain) → n ≤ 1000 → Some v ≡ chain_of (tested p below) (read_inspections first w lot test r.next)
        → (units v.counts + units r.chain.counts ≤ 1000) × (v.blanks + r.chain.blanks ≤ 1000)
    few below v high f =
        let older = whole_units (tested p below) test r.next v f in
        let newest = newer_units test n at r newer in
        (omega (arith, older.0, newest.0), omega (arith, older.1, newest.1))

    pub no_older : earliest p no_units ≡ GoOn → test ≡ 0 → chain_of (tested p test) (read_inspections first w lot n at) ≡ cond (eqb r.next 0) (Some r.chain) None
    no_older u e = newer_chain p test n at later (Some r) newer ∙ none_older p test r u e
