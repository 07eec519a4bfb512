-- The laws of a line. Assumes nothing.
use Prim.Native.Nat.{ℕ, zero, suc, ◌+◌, ◌*◌, ◌/◌, ◌%◌, ◌≤◌}
use native.Mathlib.Omega.{arith}
use mathlib.Core.Path.{◌≡◌, ap}
use mathlib.Core.Bool.{Bool, true, false, cond}
use Rattle.std.specs.Prelude.{Option, None, Some, Result, Ok, Err}
use mathlib.Core.List.{List, [], ◌∷◌, ◌++◌}
use lib.ListN.{length, length-append}
use lib.Dec.{ltb}
use Rattle.plan.specs.declared.stage.Answer.{Answer}
use Rattle.plan.specs.declared.stage.Answer.TheVariants.{GoOn, Accept, Reject}
use Rattle.plan.specs.declared.refusal.Refusal.{Refusal}
use Rattle.plan.specs.declared.refusal.Refusal.TheVariants.{Line}
use Rattle.plan.specs.Refusal.{number}
use Rattle.sheetmodel.specs.declared.reply.Shown.{Shown}
use Rattle.sheetmodel.specs.declared.reply.Totals.{Totals}
use Rattle.sheetmodel.specs.Calls.{Outcome, fresh, open_lot, inspect, strike, close, look, tally}
use Rattle.sheetmodel.specs.Offices.{no_shares}
use Rattle.commandmodel.specs.Decimal.{digit_byte, digits, most_digits, printed}
use Rattle.commandmodel.specs.Command as command
use Rattle.commandmodel.specs.Command.{space}
use Rattle.commandmodel.specs.Printed.{no_word, ok_word, tally_word, state_word, spaced, end_of_line, longest_reply}
use Rattle.commandmodel.specs.Printed.{reply_line, refusal, done_line, look_line, tally_line, reply_printed, performed}
use Rattle.commandmodel.specs.Printed.{answered, answer}
use Rattle.commandmodel.specs.Laws.{LineLaws}

-- ---- how long a reply is

digits_length : (k n : ℕ) → length (digits k n) ≤ k
unfolding digits
digits_length zero n = omega arith
digits_length (suc k) n = go (ltb n 10) (digits_length k (n / 10))
  where
    go : (t : Bool) → length (digits k (n / 10)) ≤ k
        → length (cond t (digit_byte n ∷ []) (digits k (n / 10) ++ (digit_byte (n % 10) ∷ []))) ≤ suc k
    go true h = omega arith
    go false h = omega (arith, length-append (digits k (n / 10)) (digit_byte (n % 10) ∷ []))

printed_short : (n : ℕ) → length (printed n) ≤ most_digits
unfolding printed
printed_short n = digits_length most_digits n

spaced_length : (ns : List ℕ) → length (spaced ns) ≤ 11 * length ns
spaced_length [] = omega arith
spaced_length (n ∷ ns) = omega (arith, spaced_length ns, printed_short n, length-append (space ∷ printed n) (spaced ns))

line_length : (word ns : List ℕ) → length (reply_line word ns) ≤ length word + (11 * length ns + 1)
unfolding reply_line
line_length word ns = omega (
  arith,
  spaced_length ns,
  length-append word (spaced ns ++ (end_of_line ∷ [])),
  length-append (spaced ns) (end_of_line ∷ []),
)

refusal_length : (r : Refusal) → length (refusal r) ≤ longest_reply
refusal_length r = omega (arith, line_length no_word (number r ∷ []))

-- of whatever is granted
printed_length : {T : Type 0} (line : T → List ℕ) → ((value : T) → length (line value) ≤ longest_reply)
    → (reply : Result T Refusal) → length (reply_printed line reply) ≤ longest_reply
printed_length line short (Ok value) = short value
printed_length line short (Err r) = refusal_length r

done_length : (done : Unit {0}) → length (done_line done) ≤ longest_reply
done_length done = omega (arith, line_length ok_word [])

state_length : (a : Answer) → length (state_word a) ≤ 9
state_length GoOn = omega arith
state_length Accept = omega arith
state_length Reject = omega arith

look_length : (s : Shown) → length (look_line s) ≤ longest_reply
look_length s = omega (
  arith,
  state_length s.answer,
  line_length (state_word s.answer)
      (s.units ∷ s.good ∷ s.marginal ∷ s.bad ∷ s.blanks ∷ []),
)

tally_length : (t : Totals) → length (tally_line t) ≤ longest_reply
tally_length t = omega (arith, line_length tally_word (t.accepted ∷ t.rejected ∷ t.good ∷ t.marginal ∷ t.bad ∷ []))

performed_length : (c : command.Command) (w : List ℕ) → length (performed c w).reply ≤ longest_reply
unfolding performed
performed_length (command.fresh plan) w = printed_length done_line done_length (fresh plan no_shares w).reply
performed_length (command.opening lot) w = printed_length done_line done_length (open_lot lot w).reply
performed_length (command.inspecting lot class) w = printed_length done_line done_length (inspect lot class w).reply
performed_length (command.striking lot) w = printed_length done_line done_length (strike lot w).reply
performed_length (command.looking lot) w = printed_length look_line look_length (look lot w).reply
performed_length (command.closing lot) w = printed_length done_line done_length (close lot w).reply
performed_length command.tallying w = printed_length tally_line tally_length (tally w).reply

answered_length : (c : Option command.Command) (w : List ℕ) → length (answered c w).reply ≤ longest_reply
answered_length None w = refusal_length Line
answered_length (Some c) w = performed_length c w

answer_length : (line w : List ℕ) → length (answer line w).reply ≤ longest_reply
unfolding answer
answer_length line w = answered_length (command.command line) w

-- ---- the laws

module _ (line w : List ℕ) where
  of_command : (c : command.Command) → command.command line ≡ Some c → answer line w ≡ performed c w
  unfolding answer
  of_command c e = rw e

  of_none : command.command line ≡ None → answer line w ≡ record { reply = refusal Line; words = w }
  unfolding answer
  of_none e = rw e

pub line_laws : (line w : List ℕ) → LineLaws line w
line_laws line w = record {
  makes_call = λ c e. of_command line w c e;
  gets_sixteen = λ e. ap (λ (a : Outcome (List ℕ)). a.reply) (of_none line w e);
  no_call = λ e. ap (λ (a : Outcome (List ℕ)). a.words) (of_none line w e);
  longest = answer_length line w;
}
