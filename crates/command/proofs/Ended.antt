-- The input's end: without a byte there is no line, and else the line is answered.
use Rattle.std.proofs.Common.{◌≡◌, ◌∙◌, refl, ap, ℕ, ◌+◌, ◌≤◌, List, length, arith}
use borrow.Author.Tests.{ne_eqb}
use Rattle.commandmodel.specs.Printed.{longest_reply, answer}
use Rattle.commandmodel.specs.Blocks.{input_ended}
use Rattle.commandmodel.proofs.Laws.{line_laws}
use Rattle.command.specs.Written.{written, Gives}
use Rattle.command.proofs.Writing.{written_nothing}

module _ (line w out : List ℕ) where
  pub no_line : length line ≡ 0 → Gives (input_ended line w) out 0 out w
  unfolding input_ended
  no_line e = rw e (record { count = refl; within = omega arith; bytes = written_nothing out; left = refl })

  pub a_line : (length line ≡ 0 → ⊥) → (reply w' out' : List ℕ) (r : ℕ) → reply ≡ (answer line w).reply
      → w' ≡ (answer line w).words → longest_reply ≤ length out → r ≡ 0 + length reply → out' ≡ written out 0 reply
      → Gives (input_ended line w) out r out' w'
  unfolding input_ended
  a_line some reply w' out' r e f roomy u g = rw (ne_eqb (length line) 0 some) (record {
    count = omega (arith, u, ap length e);
    within = omega (arith, u, ap length e, (line_laws line w).longest);
    bytes = g ∙ ap (written out 0) e;
    left = f;
  })
