-- A record taken, and records freed. Assumes nothing.
use Prim.Native.Nat.{ℕ, ◌+◌, ◌*◌, ◌≤◌, ◌<◌}
use mathlib.Core.Path.{◌≡◌, refl, sym, ap, ◌∙◌, subst}
use mathlib.Core.Logic.{◌≢◌}
use mathlib.Core.Bool.{Bool, true, false}
use mathlib.Core.List.{List, [], ◌∷◌}
use native.Mathlib.Omega.{arith}
use lib.ListN.{length, set, length-set}
use lib.Dec.{leb}
use borrow.Author.Tests.{leb-false, eq-eqb, ne_eqb}
use Rattle.sheetmodel.specs.Layout.{least_size, word, field, put_record, records, free_tag, next_unused, first_lot, first_free, first_record}
use Rattle.sheetmodel.specs.Contents.{Inspection}
use Rattle.sheetmodel.specs.Holds.{Inspections, Free}
use Rattle.sheetmodel.specs.Read.{depth}
use Rattle.sheetmodel.specs.Calls.{full, new_record, take_record, free_record, free_inspections}
use Rattle.sheetmodel.proofs.Words.{Same, same_refl, same_trans, word_set, word_set_here, same_set, Written, written}
use Rattle.sheetmodel.proofs.Chains.{IsInspection, IsFree, IsLot, keep_inspections, keep_free}
use Rattle.sheetmodel.proofs.Read.{depths}

-- the words of the header past the third stay as they were
pub record Kept (start : ℕ) (w v : List ℕ) : Type 0 where
  pub len : length v ≡ length w
  pub words : (i : ℕ) → 3 ≤ i → i < 4 * start → word v i ≡ word w i

pub kept_trans : {start : ℕ} {u v w : List ℕ} → Kept start u v → Kept start v w → Kept start u w
kept_trans a b = record { len = b.len ∙ a.len; words = λ i h k. b.words i h k ∙ a.words i h k }

pub kept_set : (start : ℕ) (w : List ℕ) (i v : ℕ) → (3 ≤ i → 4 * start ≤ i) → Kept start w (set w i v)
kept_set start w i v h = record { len = length-set w i v; words = λ k a b. word_set w i k v (λ e. omega (arith, h (omega arith))) }

pub kept_written : {start : ℕ} {w v : List ℕ} {j a b c d : ℕ} → start ≤ j → Written w v j a b c d → Kept start w v
kept_written h r = record { len = r.len; words = λ i k l. r.words i (omega arith) }

-- v is w, and j is on no chain of w
pub record Took (start : ℕ) (w js : List ℕ) (j : ℕ) (v : List ℕ) : Type 0 where
  pub left : List ℕ
  pub kept : Kept start w v
  pub up : word w next_unused ≤ word v next_unused
  pub room : word v next_unused ≤ records w
  pub low : start ≤ j
  pub high : j < word v next_unused
  pub first : word v first_lot ≡ word w first_lot
  pub one : length js + word v next_unused ≡ length left + 1 + word w next_unused
  pub same : (q : ℕ) → start ≤ q → Same w v q
  pub chain : Free start w (word w next_unused) left (word v first_free)
  pub spare_2 : j < word w next_unused → field w j 2 ≡ 0
  pub spare_3 : j < word w next_unused → field w j 3 ≡ free_tag
  pub spare_0 : j < word w next_unused → length left < field w j 0

-- where no record is free and the sheet is not full, one is unused
pub not_full : (w : List ℕ) → full w ≡ false → word w first_free ≡ 0 → word w next_unused < records w
unfolding full
not_full w e z = go (leb (records w) (word w next_unused)) refl (rw (eq-eqb (word w first_free) 0 z) at e)
  where
    go : (b : Bool) → leb (records w) (word w next_unused) ≡ b → b ≡ false → word w next_unused < records w
    go true d f = let y : ◌≡◌ {A = ℕ} 0 1 = cc in absurd (omega arith)
    go false d f = leb-false (records w) (word w next_unused) d

module _ (start : ℕ) (base : first_record ≤ start) (w : List ℕ) (long : least_size ≤ length w) (begun : start ≤ word w next_unused) (room : word w next_unused ≤ records w) (spare : full w ≡ false) where
  pub took : (js : List ℕ) → Free start w (word w next_unused) js (word w first_free) → Took start w js (new_record w) (take_record w)
  unfolding new_record take_record
  took (j ∷ js) c =
      let x = c.0 in
      let f = word w first_free in
      let e0 : word (set w first_free (field w f 1)) next_unused ≡ word w next_unused = word_set w first_free 0 (field w f 1) (omega arith) in
      rw (ne_eqb (word w first_free) 0 (omega arith))
      (record {
        left = js;
        kept = kept_set start w first_free (field w f 1) (λ h. absurd (omega arith));
        up = omega arith;
        room = omega arith;
        low = omega arith;
        high = omega arith;
        first = word_set w first_free 1 (field w f 1) (omega arith);
        one = omega arith;
        same = λ q h. same_set w first_free q (field w f 1) (omega arith);
        chain = rw (word_set_here w first_free (field w f 1) (omega arith), x.here) c.1;
        spare_2 = λ h. rw x.here x.blank;
        spare_3 = λ h. rw x.here x.tag;
        spare_0 = λ h. rw x.here (omega (arith, x.depth));
      })
  took [] c =
      let k = not_full w spare c in
      let e0 : word (set w next_unused (word w next_unused + 1)) next_unused ≡ word w next_unused + 1 = word_set_here w next_unused (word w next_unused + 1) (omega arith) in
      rw (eq-eqb (word w first_free) 0 c)
      (record {
        left = [];
        kept = kept_set start w next_unused (word w next_unused + 1) (λ h. absurd (omega arith));
        up = omega arith;
        room = omega arith;
        low = omega arith;
        high = omega arith;
        first = word_set w next_unused 1 (word w next_unused + 1) (omega arith);
        one = omega arith;
        same = λ q h. same_set w next_unused q (word w next_unused + 1) (omega arith);
        chain = word_set w next_unused 2 (word w next_unused + 1) (omega arith) ∙ c;
        spare_2 = λ h. absurd (omega arith);
        spare_3 = λ h. absurd (omega arith);
        spare_0 = λ h. absurd (omega arith);
      })

module _ {start : ℕ} (base : first_record ≤ start) {w js v : List ℕ} {j : ℕ} (t : Took start w js j v) where
  pub not_lot : (n q : ℕ) → IsLot start w (word w next_unused) n q → q ≢ j
  not_lot n q i e = omega (arith, i.tag, ap (λ (k : ℕ). field w k 3) e, t.spare_3 (omega (arith, i.high)))

  pub not_inspection : (lot n q : ℕ) → start ≤ lot → IsInspection start w (word w next_unused) lot n q → q ≢ j
  not_inspection lot n q l i e = omega (arith, i.owner, ap (λ (k : ℕ). field w k 2) e, t.spare_2 (omega (arith, i.high)))

  pub not_free : (q : ℕ) → IsFree start w (word w next_unused) (length t.left) q → q ≢ j
  not_free q i e = omega (arith, i.depth, ap (λ (k : ℕ). field w k 0) e, t.spare_0 (omega (arith, i.high)))

-- v is w with record j freed
pub record OneFreed (w v : List ℕ) (j : ℕ) : Type 0 where
  pub len : length v ≡ length w
  pub words : (i : ℕ) → i < 4 * j → i ≢ first_free → word v i ≡ word w i
  pub front : word v first_free ≡ j
  pub f0 : field v j 0 ≡ depth w + 1
  pub f1 : field v j 1 ≡ word w first_free
  pub f2 : field v j 2 ≡ 0
  pub f3 : field v j 3 ≡ free_tag
  pub same : (q : ℕ) → 1 ≤ q → q ≢ j → Same w v q

module _ (w : List ℕ) (j : ℕ) (low : first_record ≤ j) (room : 4 * j + 3 < length w) where
  -- by the words written
  one_freed_by : (first second third fourth front : ℕ) → first ≡ depth w + 1 → second ≡ word w first_free → third ≡ 0 → fourth ≡ free_tag → front ≡ j →
      OneFreed w (set (put_record w j first second third fourth) first_free front) j
  one_freed_by first second third fourth front deep to blank tag here =
      let u = put_record w j first second third fourth in
      let r = written w j first second third fourth room in
      let lu = r.len in
      let s = same_set u first_free j front (omega arith) in
      record {
        len = length-set u first_free front ∙ lu;
        words = λ i h d. word_set u first_free i front d ∙ r.words i h;
        front = word_set_here u first_free front (omega arith) ∙ here;
        f0 = s.f0 ∙ r.f0 ∙ deep;
        f1 = s.f1 ∙ r.f1 ∙ to;
        f2 = s.f2 ∙ r.f2 ∙ blank;
        f3 = s.f3 ∙ r.f3 ∙ tag;
        same = λ q h d. same_trans (r.same q d) (same_set u first_free q front (omega arith));
      }

  pub one_freed : OneFreed w (free_record w j) j
  unfolding free_record
  one_freed = one_freed_by _ _ _ _ _ refl refl refl refl refl

-- j is freed
pub record Freed (start : ℕ) (w : List ℕ) (hi : ℕ) (js : List ℕ) (j : ℕ) (v : List ℕ) : Type 0 where
  pub kept : Kept start w v
  pub next : word v next_unused ≡ word w next_unused
  pub first : word v first_lot ≡ word w first_lot
  pub same : (q : ℕ) → start ≤ q → q ≢ j → Same w v q
  pub chain : Free start v hi (j ∷ js) (word v first_free)

module _ (start : ℕ) (base : first_record ≤ start) (w : List ℕ) (hi : ℕ) (js : List ℕ) (j : ℕ) (low : start ≤ j) (high : j < hi) (room : 4 * j + 3 < length w)
    (not : ¬ IsFree start w hi (length js) j) (c : Free start w hi js (word w first_free)) where
  pub freed : Freed start w hi js j (free_record w j)
  freed =
      let v = free_record w j in
      let o = one_freed w j (omega arith) room in
      record {
        kept = record { len = o.len; words = λ i a b. o.words i (omega arith) (λ e. omega arith) };
        next = o.words next_unused (omega arith) (λ e. omega arith);
        first = o.words first_lot (omega arith) (λ e. omega arith);
        same = λ q h d. o.same q (omega arith) d;
        chain = (
          record { here = o.front; low = low; high = high; depth = omega (arith, o.f0, depths start (omega arith) w hi js c); blank = o.f2; tag = o.f3 },
          keep_free start w v hi hi (omega arith) js (word w first_free) (field v j 1) o.f1
              (λ q i. o.same q (omega (arith, i.low)) (λ e. not (subst (IsFree start w hi (length js)) e i))) c,
        );
      }

-- the inspections of a lot are freed, the newest first
abbrev pub push : List Inspection → List ℕ → List ℕ
push [] js = js
push (i ∷ is) js = push is (i.at ∷ js)

pub length_push : (is : List Inspection) (js : List ℕ) → length (push is js) ≡ length is + length js
length_push [] js = omega arith
length_push (i ∷ is) js = omega (arith, length_push is (i.at ∷ js))

pub record FreedInspections (start : ℕ) (w : List ℕ) (hi lot : ℕ) (js : List ℕ) (is : List Inspection) (v : List ℕ) : Type 0 where
  pub kept : Kept start w v
  pub next : word v next_unused ≡ word w next_unused
  pub first : word v first_lot ≡ word w first_lot
  pub same : (q : ℕ) → start ≤ q → (field w q 2 ≡ lot → 1 ≤ field w q 3 → ⊥) → Same w v q
  pub chain : Free start v hi (push is js) (word v first_free)

pub freed_inspections : (start : ℕ) (base : first_record ≤ start) (w : List ℕ) (hi lot : ℕ) (js : List ℕ) (is : List Inspection) (at : ℕ) → start ≤ lot → hi ≤ records w → Inspections start w hi lot is at → Free start w hi js (word w first_free) →
    FreedInspections start w hi lot js is (free_inspections w is)
unfolding free_inspections
freed_inspections start base w hi lot js [] at low room h c = record
    { kept = record { len = refl; words = λ y a b. refl }; next = refl; first = refl; same = λ q a b. same_refl w q; chain = c }
freed_inspections start base w hi lot js (i ∷ is) at low room h c =
    let x = h.0 in
    let u = free_record w i.at in
    let f : Freed start w hi js i.at u = freed start base w hi js i.at x.low x.high (omega arith) (λ y. omega (arith, y.blank, x.owner)) c in
    let r = freed_inspections start base u hi lot (i.at ∷ js) is (field w i.at 1) low (omega (arith, f.kept.len))
    (keep_inspections start w u hi hi (omega arith) lot is (field w i.at 1) (field w i.at 1) refl
    (λ q y. f.same q y.low (λ e. omega (arith, y.serial, x.serial, ap (λ (k : ℕ). field w k 3) e))) h.1)
    f.chain in
    record {
      kept = kept_trans f.kept r.kept;
      next = r.next ∙ f.next;
      first = r.first ∙ f.first;
      same = λ q a b.
          let s = f.same q a (λ e. b (ap (λ (k : ℕ). field w k 2) e ∙ x.owner) (omega (arith, x.serial, ap (λ (k : ℕ). field w k 3) e))) in
          same_trans s (r.same q a (λ y z. b (sym s.f2 ∙ y) (omega (arith, s.f3))));
      chain = r.chain;
    }
