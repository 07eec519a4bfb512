-- What is printed for each reply: a line with a word and numbers. Document 01, "Program lots".
use Rattle.std.specs.Prelude.{ℕ, List, [], ◌∷◌, ◌++◌, flat_map, Option, None, Some, Result, Ok, Err}
use Rattle.plan.specs.declared.stage.Answer.{Answer}
use Rattle.plan.specs.declared.stage.Answer.TheVariants.{GoOn, Accept, Reject}
use Rattle.plan.specs.declared.refusal.Refusal.{Refusal}
use Rattle.plan.specs.declared.refusal.Refusal.TheVariants.{Line}
use Rattle.plan.specs.Refusal.{number}
use Rattle.sheetmodel.specs.declared.reply.Shown.{Shown}
use Rattle.sheetmodel.specs.declared.reply.Totals.{Totals}
use Rattle.sheetmodel.specs.Calls.{Outcome, fresh, open_lot, inspect, strike, close, look, tally}
use Rattle.sheetmodel.specs.Offices.{no_shares}
use Rattle.commandmodel.specs.Decimal.{printed}
use Rattle.commandmodel.specs.Command as command

-- ---- the words, in bytes

-- ok
abbrev pub ok_word : List ℕ
ok_word = 111 ∷ 107 ∷ []

-- no
abbrev pub no_word : List ℕ
no_word = 110 ∷ 111 ∷ []

-- tally
abbrev pub tally_word : List ℕ
tally_word = 116 ∷ 97 ∷ 108 ∷ 108 ∷ 121 ∷ []

-- undecided, accepted, rejected
abbrev pub state_word : Answer → List ℕ
state_word GoOn = 117 ∷ 110 ∷ 100 ∷ 101 ∷ 99 ∷ 105 ∷ 100 ∷ 101 ∷ 100 ∷ []
state_word Accept = 97 ∷ 99 ∷ 99 ∷ 101 ∷ 112 ∷ 116 ∷ 101 ∷ 100 ∷ []
state_word Reject = 114 ∷ 101 ∷ 106 ∷ 101 ∷ 99 ∷ 116 ∷ 101 ∷ 100 ∷ []

-- ---- the replies

-- the numbers, each after a space
abbrev pub spaced : List ℕ → List ℕ
spaced ns = flat_map (λ n. command.space ∷ printed n) ns

abbrev pub end_of_line : ℕ
end_of_line = 10

-- no reply has more bytes
abbrev pub longest_reply : ℕ
longest_reply = 65

unfoldable pub reply_line : List ℕ → List ℕ → List ℕ
reply_line word ns = word ++ (spaced ns ++ (end_of_line ∷ []))

abbrev pub refusal : Refusal → List ℕ
refusal r = reply_line no_word (number r ∷ [])

-- what is granted: nothing, a lot's numbers, or the totals
abbrev pub done_line : Unit {0} → List ℕ
done_line done = reply_line ok_word []

abbrev pub look_line : Shown → List ℕ
look_line s = reply_line (state_word s.answer) (s.units ∷ s.good ∷ s.marginal ∷ s.bad ∷ s.blanks ∷ [])

abbrev pub tally_line : Totals → List ℕ
tally_line t = reply_line tally_word (t.accepted ∷ t.rejected ∷ t.good ∷ t.marginal ∷ t.bad ∷ [])

abbrev pub reply_printed : {T : Type 0} → (T → List ℕ) → Result T Refusal → List ℕ
reply_printed line (Ok value) = line value
reply_printed line (Err r) = refusal r

-- ---- a line's reply, and the words that it leaves

abbrev pub in_bytes : {T : Type 0} → (T → List ℕ) → Outcome (Result T Refusal) → Outcome (List ℕ)
in_bytes line o = record { reply = reply_printed line o.reply; words = o.words }

-- each command makes its call
unfoldable pub performed : command.Command → List ℕ → Outcome (List ℕ)
performed (command.fresh plan) w = in_bytes done_line (fresh plan no_shares w)
performed (command.opening lot) w = in_bytes done_line (open_lot lot w)
performed (command.inspecting lot class) w = in_bytes done_line (inspect lot class w)
performed (command.striking lot) w = in_bytes done_line (strike lot w)
performed (command.looking lot) w = in_bytes look_line (look lot w)
performed (command.closing lot) w = in_bytes done_line (close lot w)
performed command.tallying w = in_bytes tally_line (tally w)

-- any other line gets 16 and makes no call
abbrev pub answered : Option command.Command → List ℕ → Outcome (List ℕ)
answered None w = record { reply = refusal Line; words = w }
answered (Some c) w = performed c w

unfoldable pub answer : List ℕ → List ℕ → Outcome (List ℕ)
answer line w = answered (command.command line) w
