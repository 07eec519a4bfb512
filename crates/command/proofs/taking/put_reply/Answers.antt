use Rattle.std.proofs.Common.{◌∙◌, arith}
use Rattle.command.proofs.Writing.{put_written}
use Rattle.command.proofs.taking.put_reply.Goals as goal

pub returns-clause-replies_after : goal.returns-clause-replies_after
returns-clause-replies_after c =
    put_written c.args.replies.now c.args.at c.args.reply.now.items _ (omega arith) _ (c.copy_from_slice.ensures.after ∙ c.as_slice.ensures.value)
