-- `sheet::put_header` meets its contract. Assumes nothing.
use Rattle.std.proofs.Common.{ℕ, ◌≡◌, ◌/◌, List, length, replicate, take, drop, arith, ap, ◌∙◌, length-take, length-drop}
use Rattle.std.proofs.Math.ListN.{length-set}
use borrow.Rule.Slice.PartMut.{same_len_mid}
use Rattle.plan.proofs.Promise.{shape}
use Rattle.sheetmodel.specs.Layout.{plan_start}
use Rattle.sheet.proofs.HeaderWords.{room, first_words, header_put}
use Rattle.sheet.proofs.fresh_sheet.put_header.Goals as goal

pub overflow_cast-sheet : goal.overflow_cast-sheet
overflow_cast-sheet c = omega (arith, (shape c.args.plan.now c.requires.1).whole, (shape c.args.plan.now c.requires.1).seven_stages)

pub put_fives-requires : goal.put_fives-requires
put_fives-requires c =
    let s = shape c.args.plan.now c.requires.1 in
    let v : List ℕ = first_words c.args.sheet.now (length c.args.plan.now / 5) in
    let same = same_len_mid plan_start room v _ c.fill.ensures.len in
    (omega (arith, s.whole, s.seven_stages, same, length-set {A = ℕ}), omega (arith, s.whole))

pub returns : goal.returns
returns c =
    let v : List ℕ = first_words c.args.sheet.now (length c.args.plan.now / 5) in
    let part : length (take room (drop plan_start v)) ≡ room = omega (arith, length-take room (drop plan_start v), length-drop plan_start v, length-set {A = ℕ}) in
    header_put c.args.plan.now c.args.shares.now c.args.sheet.now c.requires.1 (omega arith) c.requires.0 _ _
    (c.fill.ensures.after (λ y e. e) ∙ ap (λ (n : ℕ). replicate n 0) part) c.put_fives.ensures c.copy_from_slice.ensures.after
