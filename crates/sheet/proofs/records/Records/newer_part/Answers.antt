-- `sheet::newer_part` meets its contract. Assumes nothing.
use Rattle.std.proofs.Common.{◌≡◌, ℕ, ◌+◌, ◌-◌, ◌≤◌, List, true, false, refl, ap, arith, sym, ◌∙◌}
use Rattle.plan.specs.Sample.{highest_class}
use Rattle.sheet.specs.declared.record.Record.{Record}
use Rattle.sheet.specs.Survey.{record_at, is_inspection}
use Rattle.sheet.proofs.Used.{passed, failed, inspection_class}
use Rattle.sheet.proofs.ChainSteps.{sums_fit, one_class_more, good_left, newer_cut, newer_more, newer_done}
use Rattle.sheet.proofs.records.Records.newer_part.Goals as goal

-- the class of a record that is an inspection
class_of : (first : ℕ) (w : List ℕ) (lot serial at : ℕ) (r : Record) → is_inspection first w lot serial at ≡ true → record_at w at ≡ r → r.value ≤ highest_class
class_of first w lot serial at r e is = omega (arith, ap (λ (q : Record). q.value) is, inspection_class first w lot serial at e)

pub returns-in_err-r : goal.returns-in_err-r
returns-in_err-r c =
    let r = c.args.self in
    let l = c.loop-older in
    let n : l.older - 1 + 1 ≡ l.older = omega arith in
    let is_none : is_inspection r.first r.sheet.now c.args.lot (l.older - 1 + 1) l.next ≡ false = failed _ r.sheet.now l.next c.in_err-r.ensures in
    rw c.from_residual.ensures
    (sym (l.invariant.3 ∙ newer_cut r.first r.sheet.now c.args.lot c.args.stop l.older l.next _ (omega arith) (rw n at is_none)))

pub loop-older-preserved : goal.loop-older-preserved
loop-older-preserved c =
    let r = c.args.self in
    let l = c.loop-older in
    let v = c.in_ok-r.r in
    let n : l.older - 1 + 1 ≡ l.older = omega arith in
    let one : c.args.serial - (l.older - 1) ≡ c.args.serial - l.older + 1 = omega arith in
    let found = passed (is_inspection r.first r.sheet.now c.args.lot (l.older - 1 + 1) l.next) r.sheet.now l.next v c.in_ok-r.ensures in
    let is : is_inspection r.first r.sheet.now c.args.lot l.older l.next ≡ true = rw n at found.0 in
    let class = class_of r.first r.sheet.now c.args.lot l.older l.next v is found.1 in
    rw one (
      omega arith,
      omega arith,
      sums_fit _ l.sum l.halves l.blanks v.value l.invariant.2 class,
      l.invariant.3 ∙ newer_more r.first r.sheet.now c.args.lot c.args.stop l.older l.next _ (omega arith) is v found.1
          ∙ rw (one_class_more _ l.sum l.halves l.blanks v.value l.invariant.2 class) refl,
    )

pub returns : goal.returns
returns c =
    let r = c.args.self in
    let l = c.loop-older in
    let all : l.older ≡ c.args.stop = omega arith in
    rw (good_left (c.args.serial - c.args.stop) l.sum l.halves l.blanks (rw all at l.invariant.2))
    (sym (rw all at l.invariant.3 ∙ newer_done r.first r.sheet.now c.args.lot c.args.stop l.next _))
