-- A chain of inspections freed one by one: what is left to free, and the words to come. Assumes nothing.
use Prim.Native.Nat.{ℕ, ◌+◌, ◌-◌, ◌≤◌, ◌<◌}
use mathlib.Core.Path.{◌≡◌, refl, sym, ap, ◌∙◌}
use mathlib.Core.Logic.{◌≢◌}
use mathlib.Core.Bool.{true}
use mathlib.Core.Option.{Option, none, some, get_or}
use mathlib.Core.List.{List, [], ◌∷◌}
use native.Mathlib.Omega.{arith}
use lib.ListN.{length}
use borrow.Author.Tests.{ne_eqb}
use Rattle.sheetmodel.specs.Layout.{word, field, next, next_unused, first_free, first_record}
use Rattle.sheetmodel.specs.Contents.{Inspection}
use Rattle.sheetmodel.specs.Holds.{Inspections}
use Rattle.sheetmodel.specs.Read.{depth}
use Rattle.sheetmodel.specs.Rows.{is_some}
use Rattle.sheetmodel.specs.Calls.{free_record, free_inspections}
use Rattle.sheet.specs.Writes.{InWords, Freeing, read_chain, chain}
use Rattle.sheetmodel.proofs.ForSheet.{OneFreed, one_freed, keep_inspections, sound_inspections}

-- the depth by the first free record
depth_at : (w : List ℕ) (j d : ℕ) → word w first_free ≡ j → j ≢ 0 → field w j 0 ≡ d → depth w ≡ d
unfolding depth
depth_at w j d e h f = rw (e, ne_eqb j 0 h) f

pub same_depth : (w v : List ℕ) → word v first_free ≡ word w first_free → field v (word w first_free) 0 ≡ field w (word w first_free) 0 → depth v ≡ depth w
unfolding depth
same_depth w v e f = rw (e, f)

-- n inspections are left to free, from record `at` on; the words are then `goal`, and one record more can be freed
pub record Left (goal w : List ℕ) (lot n at : ℕ) : Type 0 where
  pub inspections : List Inspection
  pub holds : Inspections first_record w (word w next_unused) lot inspections at
  pub count : n ≡ length inspections
  pub same : goal ≡ free_inspections w inspections
  pub can : Freeing w (n + 1)

pub is_read : (o : Option (List Inspection)) → is_some o ≡ true → o ≡ some (get_or o [])
is_read none e = cc
is_read (some is) e = refl

pub left_start : (w : List ℕ) (lot n at : ℕ) → Freeing w (n + 1) → is_some (read_chain w lot n at) ≡ true → Left (free_inspections w (chain w lot n at)) w lot n at
left_start w lot n at f e =
    let r = sound_inspections first_record w lot n at (chain w lot n at) (is_read (read_chain w lot n at) e) in
    record { inspections = chain w lot n at; holds = r.0; count = r.1; same = refl; can = f }

module _ {goal w : List ℕ} {lot n at : ℕ} (left : Left goal w lot n at) where
  pub left_in : 0 < n → InWords w at
  left_in some_left = go left.inspections left.holds left.count
    where
      go : (is : List Inspection) → Inspections first_record w (word w next_unused) lot is at → n ≡ length is → InWords w at
      go [] h e = absurd (omega arith)
      go (i ∷ is) h e = omega (arith, h.0.here, h.0.high, left.can.sized.room)

  pub left_step : 0 < n → Left goal (free_record w at) lot (n - 1) (next w at)
  unfolding free_inspections
  left_step some_left = go left.inspections left.holds left.count left.same
    where
      go : (is : List Inspection) → Inspections first_record w (word w next_unused) lot is at → n ≡ length is → goal ≡ free_inspections w is → Left goal (free_record w at) lot (n - 1) (next w at)
      go [] h e g = absurd (omega arith)
      go (i ∷ is) h e g =
          let x = h.0 in
          let here = x.here in
          let v = free_record w at in
          let low : first_record ≤ at = omega (arith, x.low) in
          let f : OneFreed w v at = one_freed w at low (left_in some_left) in
          let unused = f.words next_unused (omega arith) (λ e. omega arith) in
          let z = left.can.sized in
          let hi = word w next_unused in
          record {
            inspections = is;
            holds = keep_inspections first_record w v hi (word v next_unused) (omega (arith, unused)) lot is (next w i.at) (next w at) (ap (next w) here)
                (λ q m. f.same q (omega (arith, m.low)) (λ y. omega (arith, m.serial, x.serial, ap (λ (k : ℕ). field w k 3) (y ∙ here)))) h.1;
            count = omega arith;
            same = g ∙ ap (λ (k : ℕ). free_inspections (free_record w k) is) (sym here);
            can = record {
              sized = record { long = omega (arith, f.len, z.long); short = omega (arith, f.len, z.short); room = omega (arith, f.len, unused, z.room) };
              front = omega (arith, f.len, f.front, left_in some_left);
              deep = omega (arith, depth_at v at (depth w + 1) f.front (λ e. omega arith) f.f0, left.can.deep);
            };
          }

  pub left_done : n ≤ 0 → Freeing w 1 × (w ≡ goal)
  unfolding free_inspections
  left_done none_left = (record { sized = left.can.sized; front = left.can.front; deep = omega (arith, left.can.deep) }, go left.inspections left.count left.same)
    where
      go : (is : List Inspection) → n ≡ length is → goal ≡ free_inspections w is → w ≡ goal
      go [] e g = sym g
      go (i ∷ is) e g = absurd (omega arith)
