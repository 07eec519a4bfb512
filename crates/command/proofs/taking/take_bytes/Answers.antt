use Rattle.std.proofs.Common.{◌≡◌, ◌∙◌, refl, sym, ap, arith, ◌+◌, ◌-◌, ◌≤◌, [], length, take, drop}
use Rattle.std.proofs.lemmas.List.{nil_from_length}
use borrow.Author.Rules.{part_to_end}
use Rattle.commandmodel.specs.Blocks.{kept, taken}
use Rattle.commandmodel.proofs.Laws.{line_laws}
use Rattle.command.proofs.Pieces.{begins, same_length, stopped, no_room, no_byte, no_end, cut_line, inside_line}
use Rattle.command.proofs.Pieces.{kept_rest, answered_line}
use Rattle.command.proofs.taking.take_bytes.Goals as goal

pub loop-reply-init : goal.loop-reply-init
loop-reply-init c = let a = c.args in begins a.block.now a.line.now.items a.sheet.now a.replies.now

pub loop-reply-preserved-in-None : goal.loop-reply-preserved-in-None
loop-reply-preserved-in-None c =
    let a = c.args in
    let l = c.loop-reply in
    let some : 1 ≤ length l.rest.now = grind arith in
    let same = same_length a.block.now a.line.now.items a.sheet.now a.replies.now l.line.items l.sheet l.replies l.used
    l.rest.now l.invariant in
    kept_rest a.block.now a.line.now.items a.sheet.now a.replies.now l.line.items l.sheet l.replies l.used l.rest.now
    l.invariant (omega arith) (no_end l.rest.now (sym c.in-None.ensures)) some c.keep.new.line.items c.keep.ensures

pub put_reply-used-requires : goal.put_reply-used-requires
put_reply-used-requires c =
    let l = c.loop-reply in
    let longest = (line_laws (kept l.line.items (take c.in-Some.end l.rest.now)) l.sheet).longest in
    omega (arith, ap length c.answer_rest.ensures.reply_after, longest)

pub loop-reply-preserved : goal.loop-reply-preserved
loop-reply-preserved c =
    let a = c.args in
    let l = c.loop-reply in
    let rest = l.rest.now in
    let end = c.in-Some.end in
    let answered = c.answer_rest in
    let put = c.put_reply-used in
    let same = same_length a.block.now a.line.now.items a.sheet.now a.replies.now l.line.items l.sheet l.replies l.used
    rest l.invariant in
    rw (part_to_end rest (end + 1))
    (answered_line a.block.now a.line.now.items a.sheet.now a.replies.now l.line.items l.sheet l.replies l.used rest
    l.invariant (omega arith) (take end rest) (drop (end + 1) rest) (cut_line rest end (sym c.in-Some.ensures))
    (inside_line rest end (sym c.in-Some.ensures)) answered.new.line.items answered.new.sheet answered.new.reply.items
    put.new.replies put.result answered.ensures.line_after answered.ensures.sheet_after answered.ensures.reply_after
    put.ensures.replies_after put.ensures.end)

pub returns : goal.returns
returns c =
    let a = c.args in
    let l = c.loop-reply in
    let rest = l.rest.now in
    let room = length a.replies.now - l.used in
    let same = same_length a.block.now a.line.now.items a.sheet.now a.replies.now l.line.items l.sheet l.replies l.used
    rest l.invariant in
    let none : taken room l.line.items l.sheet rest ≡ 0 = elim c.loop-reply-test.branch [
      | goal.then-loop-reply-test+else-replies-used-ge-LONGEST_REPLY w ↦ no_room room l.line.items l.sheet rest
          (omega (arith, w.if-replies-used-ge-LONGEST_REPLY.false))
      | goal.else-loop-reply-test w ↦
          let empty : rest ≡ [] = nil_from_length rest (grind arith) in
          ap (taken room l.line.items l.sheet) empty ∙ no_byte room l.line.items l.sheet
    ] in
    let s = stopped a.block.now a.line.now.items a.sheet.now a.replies.now l.line.items l.sheet l.replies l.used rest
    l.invariant (record { bytes = length a.block.now - length rest; replies = l.used }) refl refl none in
    record { bytes_value = s.0; left = s.1; progress = s.2 }
