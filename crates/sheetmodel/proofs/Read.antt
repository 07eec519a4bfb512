-- The reader finds exactly what the words hold, for every start from 1 on: `reads`. Assumes nothing.
use Prim.Native.Nat.{ℕ, zero, suc, ◌+◌, ◌-◌, ◌*◌, ◌≤◌, ◌<◌}
use mathlib.Core.Path.{◌≡◌, refl, sym, ap, ◌∙◌, subst}
use mathlib.Core.Bool.{Bool, true, false, cond, ◌&&◌}
use mathlib.Core.Option.{Option, none, some, some-injective}
use mathlib.Core.List.{List, [], ◌∷◌}
use native.Mathlib.Omega.{arith}
use lib.ListN.{length, get_or, take, drop, length-take, length-drop}
use lib.Seq.{get_or-take, get_or-drop}
use lib.Dec.{leb, ltb, eqb}
use borrow.Author.Tests.{le-leb, lt-ltb, eq-eqb, ne_eqb, leb-true, ltb-true, eqb-true}
use Rattle.plan.specs.Plan.{stages}
use Rattle.sheetmodel.specs.Layout.{word, field, next, newest, records, next_unused, first_lot, first_free, stage_count, plan_start, plan_room, plan_words, unused_stages, share, first_record, closed_lots, closed_units, free_tag, most_closed}
use Rattle.plan.specs.Sample.{highest_class}
use Rattle.sheetmodel.specs.Contents.{Inspection, Lot, Contents, records_of}
use Rattle.sheetmodel.specs.Offices.{shares_fit}
use Rattle.sheetmodel.specs.Holds.{Inspections, Lots, Free, Holds}
use Rattle.sheetmodel.specs.Read.{guard, then, serial_at, depth, in_use, read_inspections, read_free, read_lots, read_from, all_undecided_before, all_zero, header_ok, contents_ok, read, ReadsExactly, ReadsASheet}
use Rattle.plan.proofs.Bools.{and_both, and_left, and_right}
use Rattle.sheetmodel.proofs.HistoryLaws.{undecided_tests, undecided_facts}

-- ---- complete: what the words hold is read

module _ (start : ℕ) (base : 1 ≤ start) (w : List ℕ) where
  pub reads_inspections : (lot at : ℕ) (is : List Inspection) → Inspections start w (word w next_unused) lot is at → read_inspections start w lot (length is) at ≡ some is
  unfolding read_inspections
  reads_inspections lot at [] h = rw (eq-eqb at 0 h)
  reads_inspections lot at (i ∷ is) h =
      let x = h.0 in
      rw (
        x.here,
        le-leb start i.at x.low,
        lt-ltb i.at (word w next_unused) x.high,
        x.class,
        le-leb i.class highest_class x.known,
        eq-eqb (field w i.at 2) lot x.owner,
        eq-eqb (field w i.at 3) (suc (length is)) x.serial,
        reads_inspections lot (next w i.at) is h.1,
      )

  pub serials : (lot at : ℕ) (is : List Inspection) → Inspections start w (word w next_unused) lot is at → serial_at w at ≡ length is
  unfolding serial_at
  serials lot at [] h = rw (eq-eqb at 0 h)
  serials lot at (i ∷ is) h = let x = h.0 in rw (x.here, ne_eqb i.at 0 (omega arith)) x.serial

  reads_free : (at : ℕ) (js : List ℕ) → Free start w (word w next_unused) js at → read_free start w (length js) at ≡ some js
  unfolding read_free
  reads_free at [] h = rw (eq-eqb at 0 h)
  reads_free at (j ∷ js) h =
      let x = h.0 in
      rw (
        x.here,
        le-leb start j x.low,
        lt-ltb j (word w next_unused) x.high,
        eq-eqb (field w j 0) (suc (length js)) x.depth,
        eq-eqb (field w j 2) 0 x.blank,
        eq-eqb (field w j 3) free_tag x.tag,
        reads_free (next w j) js h.1,
      )

  pub depths : (hi : ℕ) (js : List ℕ) → Free start w hi js (word w first_free) → depth w ≡ length js
  unfolding depth
  depths hi [] h = rw (eq-eqb (word w first_free) 0 h)
  depths hi (j ∷ js) h = let x = h.0 in rw (x.here, ne_eqb j 0 (omega arith)) x.depth

  reads_lots : (most above at : ℕ) (ls : List Lot) → length ls ≤ most → Lots start w (word w next_unused) above ls at → read_lots start w most above at ≡ some ls
  unfolding read_lots
  reads_lots zero above at [] f h = rw (eq-eqb at 0 h)
  reads_lots zero above at (l ∷ ls) f h = absurd (omega arith)
  reads_lots (suc n) above at [] f h = rw (eq-eqb at 0 h)
  reads_lots (suc n) above at (l ∷ ls) f h =
      let x = h.0 in
      rw (
        x.here,
        ne_eqb l.at 0 (omega arith),
        le-leb start l.at x.low,
        lt-ltb l.at (word w next_unused) x.high,
        x.numbered,
        lt-ltb above l.number x.rises,
        eq-eqb (field w l.at 3) 0 x.tag,
        serials l.at (newest w l.at) l.inspections h.1,
        reads_inspections l.at (newest w l.at) l.inspections h.1,
        reads_lots n l.number (next w l.at) ls (omega arith) h.2,
      )

lots_fit : (ls : List Lot) → length ls ≤ records_of ls
lots_fit [] = omega arith
lots_fit (l ∷ ls) = omega (arith, lots_fit ls)

all_zero_test : (xs : List ℕ) → ((i : ℕ) → i < length xs → get_or xs i 0 ≡ 0) → all_zero xs ≡ true
all_zero_test [] h = refl
all_zero_test (x ∷ xs) h = and_both (eq-eqb x 0 (h 0 (omega arith))) (all_zero_test xs (λ i b. h (suc i) (omega arith)))

unused_word : (w : List ℕ) (i : ℕ) → 5 * word w stage_count + i < plan_room → get_or (unused_stages w) i 0 ≡ word w (plan_start + (5 * word w stage_count + i))
unused_word w i b =
    let k = 5 * word w stage_count in
    get_or-drop k (take plan_room (drop plan_start w)) i 0 ∙ get_or-take plan_room (drop plan_start w) (k + i) 0 b ∙ get_or-drop plan_start w (k + i) 0

complete : (start : ℕ) → 1 ≤ start → (w : List ℕ) (s : Contents) → Holds start w s → read_from start w ≡ some s
unfolding read_from
complete start base w s h =
    let k = 5 * word w stage_count in
    let area = take plan_room (drop plan_start w) in
    let unused : all_zero (unused_stages w) ≡ true = all_zero_test (unused_stages w) (λ i b.
    let fits : k + i < plan_room = omega (arith, length-drop k area, length-take plan_room (drop plan_start w)) in
    unused_word w i fits ∙ h.unused_zero (k + i) (omega arith) fits) in
    rw (
      h.plan,
      unused,
      le-leb start (word w next_unused) h.begun,
      le-leb (word w next_unused) (records w) h.room,
      le-leb (closed_lots w) most_closed h.lots_bound,
      le-leb (closed_units w) (1000 * closed_lots w) h.units_bound,
      reads_lots start base w (records w) 0 (word w first_lot) s.lots (omega (arith, h.room, h.count, lots_fit s.lots)) h.lots,
      depths start base w (word w next_unused) s.free h.free,
      reads_free start base w (word w first_free) s.free h.free,
      eq-eqb (start + (records_of s.lots + length s.free)) (word w next_unused) h.count,
      undecided_tests (stages (plan_words w)) s.lots h.undecided_before,
    )

-- ---- sound: what is read is held

module _ {A : Type 0} where
  guarded : (b : Bool) (rest : Unit {0} → Option A) (a : A) → guard b rest ≡ some a → (b ≡ true) × (rest tt ≡ some a)
  guarded true rest a e = (refl, e)
  guarded false rest a e = let z : ◌≡◌ {A = ℕ} 0 1 = cc in absurd (omega arith)

module _ {A B : Type 0} where
  followed : (o : Option A) (rest : A → Option B) (b : B) → then o rest ≡ some b → (a : A) × (o ≡ some a) × (rest a ≡ some b)
  followed none rest b e = let z : ◌≡◌ {A = ℕ} 0 1 = cc in absurd (omega arith)
  followed (some a) rest b e = (a, refl, e)

module _ (start : ℕ) (w : List ℕ) where
  pub sound_inspections : (lot n at : ℕ) (is : List Inspection) → read_inspections start w lot n at ≡ some is → Inspections start w (word w next_unused) lot is at × (n ≡ length is)
  unfolding read_inspections
  sound_inspections lot zero at is e =
      let g = guarded (eqb at 0) (λ ok. some []) is e in
      subst (λ (r : List Inspection). Inspections start w (word w next_unused) lot r at × (0 ≡ length r)) (some-injective [] is g.1) (eqb-true at 0 g.0, refl)
  sound_inspections lot (suc n) at is e =
      let i : Inspection = record { at = at; class = field w at 0 } in
      let k : List Inspection → Option (List Inspection) = λ r. some (i ∷ r) in
      let g = guarded (in_use start w at && leb (field w at 0) highest_class && eqb (field w at 2) lot && eqb (field w at 3) (suc n)) (λ ok. then (read_inspections start w lot n (next w at)) k) is e in
      let b = g.0 in
      let t = followed (read_inspections start w lot n (next w at)) k is g.1 in
      let r = sound_inspections lot n (next w at) t.0 t.1 in
      let l = r.1 in
      subst (λ (r : List Inspection). Inspections start w (word w next_unused) lot r at × (suc n ≡ length r)) (some-injective (i ∷ t.0) is t.2) (
        (
          record {
            here = refl;
            low = leb-true start at (search (and_left, and_right));
            high = ltb-true at (word w next_unused) (search (and_left, and_right));
            class = refl;
            known = leb-true (field w at 0) highest_class (search (and_left, and_right));
            owner = eqb-true (field w at 2) lot (search (and_left, and_right));
            serial = eqb-true (field w at 3) (suc n) (search (and_left, and_right)) ∙ ap suc l;
          },
          r.0,
        ),
        ap suc l,
      )

  pub sound_free : (n at : ℕ) (js : List ℕ) → read_free start w n at ≡ some js → Free start w (word w next_unused) js at × (n ≡ length js)
  unfolding read_free
  sound_free zero at js e =
      let g = guarded (eqb at 0) (λ ok. some []) js e in
      subst (λ (r : List ℕ). Free start w (word w next_unused) r at × (0 ≡ length r)) (some-injective [] js g.1) (eqb-true at 0 g.0, refl)
  sound_free (suc n) at js e =
      let k : List ℕ → Option (List ℕ) = λ r. some (at ∷ r) in
      let g = guarded (in_use start w at && eqb (field w at 0) (suc n) && eqb (field w at 2) 0 && eqb (field w at 3) free_tag) (λ ok. then (read_free start w n (next w at)) k) js e in
      let b = g.0 in
      let t = followed (read_free start w n (next w at)) k js g.1 in
      let r = sound_free n (next w at) t.0 t.1 in
      let l = r.1 in
      subst (λ (r : List ℕ). Free start w (word w next_unused) r at × (suc n ≡ length r)) (some-injective (at ∷ t.0) js t.2) (
        (
          record {
            here = refl;
            low = leb-true start at (search (and_left, and_right));
            high = ltb-true at (word w next_unused) (search (and_left, and_right));
            depth = eqb-true (field w at 0) (suc n) (search (and_left, and_right)) ∙ ap suc l;
            blank = eqb-true (field w at 2) 0 (search (and_left, and_right));
            tag = eqb-true (field w at 3) free_tag (search (and_left, and_right));
          },
          r.0,
        ),
        ap suc l,
      )

  pub sound_lots : (n above at : ℕ) (ls : List Lot) → read_lots start w n above at ≡ some ls → Lots start w (word w next_unused) above ls at
  unfolding read_lots
  sound_lots zero above at ls e =
      let g = guarded (eqb at 0) (λ ok. some []) ls e in
      subst (λ (r : List Lot). Lots start w (word w next_unused) above r at) (some-injective [] ls g.1) (eqb-true at 0 g.0)
  sound_lots (suc n) above at ls e = go (sound_lots n) (eqb at 0) refl e
    where
      second : List Inspection → List Lot → Option (List Lot)
      second is r = some (record { at = at; number = field w at 0; inspections = is } ∷ r)

      first : List Inspection → Option (List Lot)
      first is = then (read_lots start w n (field w at 0) (next w at)) (second is)

      test : Bool
      test = in_use start w at && ltb above (field w at 0) && eqb (field w at 3) 0

      go : ((above at : ℕ) (ls : List Lot) → read_lots start w n above at ≡ some ls → Lots start w (word w next_unused) above ls at) → (z : Bool) → eqb at 0 ≡ z →
          cond z (some []) (guard test (λ ok. then (read_inspections start w at (serial_at w (newest w at)) (newest w at)) first)) ≡ some ls →
          Lots start w (word w next_unused) above ls at
      go ih true z d = subst (λ (r : List Lot). Lots start w (word w next_unused) above r at) (some-injective [] ls d) (eqb-true at 0 z)
      go ih false z d =
          let g = guarded test (λ ok. then (read_inspections start w at (serial_at w (newest w at)) (newest w at)) first) ls d in
          let b = g.0 in
          let t = followed (read_inspections start w at (serial_at w (newest w at)) (newest w at)) first ls g.1 in
          let s = followed (read_lots start w n (field w at 0) (next w at)) (second t.0) ls t.2 in
          let m = sound_inspections at (serial_at w (newest w at)) (newest w at) t.0 t.1 in
          subst (λ (r : List Lot). Lots start w (word w next_unused) above r at) (some-injective (record { at = at; number = field w at 0; inspections = t.0 } ∷ s.0) ls s.2) (
            record {
              here = refl;
              low = leb-true start at (search (and_left, and_right));
              high = ltb-true at (word w next_unused) (search (and_left, and_right));
              numbered = refl;
              rises = ltb-true above (field w at 0) (search (and_left, and_right));
              tag = eqb-true (field w at 3) 0 (search (and_left, and_right));
            },
            m.0,
            ih (field w at 0) (next w at) s.0 s.1,
          )

all_zero_fact : (xs : List ℕ) → all_zero xs ≡ true → (i : ℕ) → get_or xs i 0 ≡ 0
all_zero_fact [] e i = refl
all_zero_fact (x ∷ xs) e zero = eqb-true x 0 (and_left (eqb x 0) (all_zero xs) e)
all_zero_fact (x ∷ xs) e (suc i) = all_zero_fact xs (and_right (eqb x 0) (all_zero xs) e) i

sound : (start : ℕ) (w : List ℕ) (s : Contents) → read_from start w ≡ some s → Holds start w s
unfolding read_from
sound start w s e =
    let p = stages (plan_words w) in
    let made : List Lot → List ℕ → Contents = λ ls js. record { lots = ls; free = js } in
    let last : List Lot → List ℕ → Option Contents = λ ls js. guard (contents_ok start w (made ls js)) (λ ok. some (made ls js)) in
    let free : List Lot → Option Contents = λ ls. then (read_free start w (depth w) (word w first_free)) (last ls) in
    let g = guarded (header_ok start w) (λ ok. then (read_lots start w (records w) 0 (word w first_lot)) free) s e in
    let ok = g.0 in
    let a = followed (read_lots start w (records w) 0 (word w first_lot)) free s g.1 in
    let b = followed (read_free start w (depth w) (word w first_free)) (last a.0) s a.2 in
    let c = guarded (contents_ok start w (made a.0 b.0)) (λ ok. some (made a.0 b.0)) s b.2 in
    let counted = eqb (start + (records_of a.0 + length b.0)) (word w next_unused) in
    let zero : all_zero (unused_stages w) ≡ true = search (and_left, and_right) depth 10 in
    let k = 5 * word w stage_count in
    subst (Holds start w) (some-injective (made a.0 b.0) s c.1) (record {
      plan = search (and_left, and_right) depth 10;
      unused_zero = λ i low high.
          ap (λ (n : ℕ). word w (plan_start + n)) {x = i} {y = k + (i - k)} (omega arith) ∙ sym (unused_word w (i - k) (omega arith)) ∙ all_zero_fact (unused_stages w) zero (i - k);
      begun = leb-true start (word w next_unused) (search (and_left, and_right) depth 10);
      room = leb-true (word w next_unused) (records w) (search (and_left, and_right) depth 10);
      lots = sound_lots start w (records w) 0 (word w first_lot) a.0 a.1;
      free = (sound_free start w (depth w) (word w first_free) b.0 b.1).0;
      count = eqb-true (start + (records_of a.0 + length b.0)) (word w next_unused) (and_left counted (all_undecided_before p a.0) c.0);
      undecided_before = undecided_facts p a.0 (and_right counted (all_undecided_before p a.0) c.0);
      lots_bound = leb-true (closed_lots w) most_closed (search (and_left, and_right) depth 10);
      units_bound = leb-true (closed_units w) (1000 * closed_lots w) (search (and_left, and_right) depth 10);
    })

pub reads : ReadsExactly
reads start base w s = (sound start w s, complete start base w s)

pub reads_a_sheet : ReadsASheet
unfolding read
reads_a_sheet w s = (
  (λ e. let g = guarded (shares_fit (share w) w) (λ ok. read_from first_record w) s e in (g.0, (reads first_record (omega arith) w s).0 g.1)),
  (λ h. rw h.0 ((reads first_record (omega arith) w s).1 h.1)),
)
