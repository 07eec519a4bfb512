use Rattle.std.proofs.Common.{◌∙◌, ap, arith, length}
use Rattle.commandmodel.specs.Printed.{answer}
use Rattle.commandmodel.proofs.Laws.{line_laws}
use Rattle.command.proofs.Ended.{no_line, a_line}
use Rattle.command.proofs.taking.end_input.Goals as goal

pub returns-then-is_empty : goal.returns-then-is_empty
returns-then-is_empty c = no_line c.args.line.now.items c.args.sheet.now c.args.replies.now (grind arith)

pub put_reply-requires : goal.put_reply-requires
put_reply-requires c =
    let l = (line_laws c.as_slice.result.now c.args.sheet.now).longest in
    omega (arith, ap length c.answer.ensures.reply_after, l)

pub returns : goal.returns
returns c =
    let told = c.answer in
    let same = c.as_slice.ensures.value in
    a_line c.args.line.now.items c.args.sheet.now c.args.replies.now (λ e. grind (arith, e)) told.new.reply.items
    told.new.sheet c.put_reply.new.replies c.put_reply.result
    (told.ensures.reply_after ∙ ap (λ l. (answer l c.args.sheet.now).reply) same)
    (told.ensures.sheet_after ∙ ap (λ l. (answer l c.args.sheet.now).words) same)
    c.requires c.put_reply.ensures.end c.put_reply.ensures.replies_after
