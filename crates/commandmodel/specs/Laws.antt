-- What holds of every line and every sheet: statements alone, proved in proofs/Laws.antt.
use Rattle.std.specs.Prelude.{ℕ, ◌≤◌, ◌≡◌, List, length, None, Some}
use Rattle.plan.specs.declared.refusal.Refusal.TheVariants.{Line}
use Rattle.commandmodel.specs.Command.{Command, command}
use Rattle.commandmodel.specs.Printed.{longest_reply, performed, refusal, answer}

pub record LineLaws (line w : List ℕ) : Type 0 where
  -- a command makes its call
  pub makes_call : (c : Command) → command line ≡ Some c → answer line w ≡ performed c w
  -- any other line gets 16 and makes no call: every word stays
  pub gets_sixteen : command line ≡ None → (answer line w).reply ≡ refusal Line
  pub no_call : command line ≡ None → (answer line w).words ≡ w
  -- no reply is longer than the room that is kept for one
  pub longest : length (answer line w).reply ≤ longest_reply
