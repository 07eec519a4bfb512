-- The word and the numbers so far are in the reply.
use Rattle.std.proofs.Common.{◌≡◌, ◌+◌, ◌*◌, ◌≤◌, ◌++◌, length, take}
use Rattle.commandmodel.specs.Printed.{spaced}
use Rattle.arrayvec.specs.ArrayVec.{array_vec_len}
use Rattle.command.proofs.printing.reply_line.Given as goal

abbrev pub invariant-loop-n : goal.invariant-loop-n
invariant-loop-n l = record {
  so_far : l.reply.items ≡ l.word ++ spaced (take l.n-index l.numbers);
  short : array_vec_len l.reply ≤ length l.word + 11 * l.n-index;
}
