use Rattle.std.proofs.Common.{arith}
use Rattle.std.proofs.lemmas.Grind.{common_steps}
use Rattle.commandmodel.specs.Printed.{reply_line}
use Rattle.commandmodel.proofs.Digits.{printed_decimal}
use Rattle.command.proofs.printing.reply_line.Goals as goal

pub loop-n-preserved : goal.loop-n-preserved
loop-n-preserved c = grind (arith, common_steps, printed_decimal)

pub returns : goal.returns
unfolding reply_line
returns c = grind (arith, common_steps)
