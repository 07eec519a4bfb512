-- What the code that takes a block leaves (specs/Blocks.antt of commandmodel has the definitions).
use Rattle.std.specs.Prelude.{ℕ, ◌≤◌, ◌≡◌, List, length}
use Rattle.command.specs.declared.taking.Taken.{Taken}
use Rattle.commandmodel.specs.Printed.{longest_reply}
use Rattle.commandmodel.specs.Blocks.{Fed}
use Rattle.command.specs.Written.{written}

-- what the code leaves: its result, the kept bytes, the words and the replies; other bytes stay as they are
pub record Left (f : Fed) (replies : List ℕ) (r : Taken) (line' w' replies' : List ℕ) : Type 0 where
  pub line_bytes : line' ≡ f.line
  pub words : w' ≡ f.words
  pub reply_length : r.replies ≡ length f.replies
  pub reply_bytes : replies' ≡ written replies 0 f.replies

-- how much that is: some byte is taken if there is one, and room for a reply
pub record Progress (block replies : List ℕ) (r : Taken) : Type 0 where
  pub bytes_within : r.bytes ≤ length block
  pub replies_within : r.replies ≤ length replies
  pub some_byte : longest_reply ≤ length replies → 1 ≤ length block → 1 ≤ r.bytes
