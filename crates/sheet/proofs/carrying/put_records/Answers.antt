-- The answers for `sheet::put_records`; Invariants.antt says what its loop goes by. Assumes nothing.
use Prim.Native.Nat.{◌-◌}
use mathlib.Core.Path.{◌≡◌, refl, sym, ap, ◌∙◌}
use native.Mathlib.Omega.{arith}
use lib.Seq.{paste, paste-zero}
use Rattle.sheetmodel.specs.Layout.{word, next_unused, header_size, old_first_record}
use Rattle.sheetmodel.specs.Carry.{carried_records}
use Rattle.sheetmodel.proofs.ForSheet.{raised_length}
use Rattle.sheet.proofs.CarryWords.{raised_to}
use Rattle.sheet.proofs.carrying.put_records.Goals as goal

pub loop-j-init : goal.loop-j-init
loop-j-init c = (omega arith, c.requires.begun, refl, paste-zero c.args.sheet.now header_size (carried_records c.args.old.now))

pub returns : goal.returns
returns c =
    let l = c.loop-j in
    let old = c.args.old.now in
    let n = word old next_unused - old_first_record in
    let all : l.j ≡ word old next_unused = omega arith in
    l.invariant.3 ∙ ap (raised_to c.args.sheet.now old) all ∙ ap (paste c.args.sheet.now header_size (carried_records old)) (sym (raised_length old old_first_record n))
