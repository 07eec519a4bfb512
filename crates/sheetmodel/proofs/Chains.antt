-- Frame laws: words that keep the records of a chain's kind keep the chain. A record's kind is what its words look like, so no
-- law needs to know which records are on which chain. Assumes nothing.
use Prim.Native.Nat.{ℕ, ◌≤◌, ◌<◌}
use mathlib.Core.Path.{◌≡◌, ◌∙◌}
use mathlib.Core.Logic.{◌≢◌}
use mathlib.Core.List.{List, [], ◌∷◌}
use native.Mathlib.Omega.{arith}
use lib.ListN.{length}
use Rattle.sheetmodel.specs.Layout.{field, free_tag}
use Rattle.sheetmodel.specs.Contents.{Inspection}
use Rattle.sheetmodel.specs.Holds.{Inspections, Free}
use Rattle.sheetmodel.proofs.Words.{Same}

-- a record of w below hi that reads as an inspection of the lot at `lot`, with a serial of at most n
pub record IsInspection (start : ℕ) (w : List ℕ) (hi lot n q : ℕ) : Type 0 where
  pub low : start ≤ q
  pub high : q < hi
  pub owner : field w q 2 ≡ lot
  pub some_serial : 1 ≤ field w q 3
  pub serial : field w q 3 ≤ n

-- .. that reads as a free record of depth at most n
pub record IsFree (start : ℕ) (w : List ℕ) (hi n q : ℕ) : Type 0 where
  pub low : start ≤ q
  pub high : q < hi
  pub depth : field w q 0 ≤ n
  pub blank : field w q 2 ≡ 0
  pub tag : field w q 3 ≡ free_tag

-- .. that reads as a lot whose number is not n
pub record IsLot (start : ℕ) (w : List ℕ) (hi n q : ℕ) : Type 0 where
  pub low : start ≤ q
  pub high : q < hi
  pub other : field w q 0 ≢ n
  pub tag : field w q 3 ≡ 0

module _ (start : ℕ) (w v : List ℕ) (hi to : ℕ) (up : hi ≤ to) where
  pub keep_inspections : (lot : ℕ) (is : List Inspection) (at bt : ℕ) → bt ≡ at → ((q : ℕ) → IsInspection start w hi lot (length is) q → Same w v q) →
      Inspections start w hi lot is at → Inspections start v to lot is bt
  keep_inspections lot [] at bt e k h = e ∙ h
  keep_inspections lot (i ∷ is) at bt e k h =
      let x = h.0 in
      let s = k i.at (record { low = x.low; high = x.high; owner = x.owner; some_serial = omega arith; serial = omega arith }) in (
        record { here = e ∙ x.here; low = x.low; high = omega arith; class = s.f0 ∙ x.class; known = x.known; owner = s.f2 ∙ x.owner; serial = s.f3 ∙ x.serial },
        keep_inspections lot is (field w i.at 1) (field v i.at 1) s.f1
            (λ q r. k q (record { low = r.low; high = r.high; owner = r.owner; some_serial = r.some_serial; serial = omega (arith, r.serial) })) h.1,
      )

  pub keep_free : (js : List ℕ) (at bt : ℕ) → bt ≡ at → ((q : ℕ) → IsFree start w hi (length js) q → Same w v q) →
      Free start w hi js at → Free start v to js bt
  keep_free [] at bt e k h = e ∙ h
  keep_free (j ∷ js) at bt e k h =
      let x = h.0 in
      let s = k j (record { low = x.low; high = x.high; depth = omega arith; blank = x.blank; tag = x.tag }) in (
        record { here = e ∙ x.here; low = x.low; high = omega arith; depth = s.f0 ∙ x.depth; blank = s.f2 ∙ x.blank; tag = s.f3 ∙ x.tag },
        keep_free js (field w j 1) (field v j 1) s.f1
            (λ q r. k q (record { low = r.low; high = r.high; depth = omega (arith, r.depth); blank = r.blank; tag = r.tag })) h.1,
      )
