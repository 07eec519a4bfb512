-- The command of a letter and numbers, letter by letter, and its call's outcome as the line's answer.
use Rattle.std.proofs.Common.{◌≡◌, ◌∙◌, refl, ap, sym, ℕ, true, false, List, length, get_or}
use Rattle.std.specs.Prelude.{None, Some, Result}
use borrow.Author.Tests.{eq-eqb, ne_eqb}
use Rattle.plan.specs.declared.refusal.Refusal.{Refusal}
use Rattle.plan.specs.declared.refusal.Refusal.TheVariants.{Line}
use Rattle.sheetmodel.specs.Calls.{Outcome, fresh, open_lot, inspect, strike, look, close, tally}
use Rattle.sheetmodel.specs.Offices.{no_shares}
use Rattle.sheetmodel.specs.declared.reply.Shown.{Shown}
use Rattle.sheetmodel.specs.declared.reply.Totals.{Totals}
use Rattle.sheetmodel.proofs.Corollaries.{look_words, tally_words}
use Rattle.commandmodel.specs.Command.{Command, whole_stages, forms, by_letter, command}
use Rattle.commandmodel.specs.Command as command
use Rattle.commandmodel.specs.Printed.{reply_printed, refusal, done_line, look_line, tally_line, in_bytes, performed}
use Rattle.commandmodel.specs.Printed.{answer}

-- ---- a letter's command, by the numbers ns

module _ (b : ℕ) (ns : List ℕ) where
  of_p : b ≡ 112 → whole_stages (length ns) ≡ true → by_letter forms b ns ≡ Some (command.fresh ns)
  unfolding forms
  of_p e h = rw (e, h)

  of_o : b ≡ 111 → length ns ≡ 1 → by_letter forms b ns ≡ Some (command.opening (get_or ns 0 0))
  unfolding forms
  of_o e h = rw (e, eq-eqb 1 (length ns) (sym h))

  of_i : b ≡ 105 → length ns ≡ 2 → by_letter forms b ns ≡ Some (command.inspecting (get_or ns 0 0) (get_or ns 1 0))
  unfolding forms
  of_i e h = rw (e, eq-eqb 2 (length ns) (sym h))

  of_s : b ≡ 115 → length ns ≡ 1 → by_letter forms b ns ≡ Some (command.striking (get_or ns 0 0))
  unfolding forms
  of_s e h = rw (e, eq-eqb 1 (length ns) (sym h))

  of_l : b ≡ 108 → length ns ≡ 1 → by_letter forms b ns ≡ Some (command.looking (get_or ns 0 0))
  unfolding forms
  of_l e h = rw (e, eq-eqb 1 (length ns) (sym h))

  of_c : b ≡ 99 → length ns ≡ 1 → by_letter forms b ns ≡ Some (command.closing (get_or ns 0 0))
  unfolding forms
  of_c e h = rw (e, eq-eqb 1 (length ns) (sym h))

  of_t : b ≡ 116 → length ns ≡ 0 → by_letter forms b ns ≡ Some command.tallying
  unfolding forms
  of_t e h = rw (e, eq-eqb 0 (length ns) (sym h))

  -- ---- no command

  pub no_p : b ≡ 112 → whole_stages (length ns) ≡ false → by_letter forms b ns ≡ None
  unfolding forms
  no_p e h = rw (e, h)

  pub no_o : b ≡ 111 → (length ns ≡ 1 → ⊥) → by_letter forms b ns ≡ None
  unfolding forms
  no_o e h = rw (e, ne_eqb 1 (length ns) (λ q. h (sym q)))

  pub no_i : b ≡ 105 → (length ns ≡ 2 → ⊥) → by_letter forms b ns ≡ None
  unfolding forms
  no_i e h = rw (e, ne_eqb 2 (length ns) (λ q. h (sym q)))

  pub no_s : b ≡ 115 → (length ns ≡ 1 → ⊥) → by_letter forms b ns ≡ None
  unfolding forms
  no_s e h = rw (e, ne_eqb 1 (length ns) (λ q. h (sym q)))

  pub no_l : b ≡ 108 → (length ns ≡ 1 → ⊥) → by_letter forms b ns ≡ None
  unfolding forms
  no_l e h = rw (e, ne_eqb 1 (length ns) (λ q. h (sym q)))

  pub no_c : b ≡ 99 → (length ns ≡ 1 → ⊥) → by_letter forms b ns ≡ None
  unfolding forms
  no_c e h = rw (e, ne_eqb 1 (length ns) (λ q. h (sym q)))

  pub no_t : b ≡ 116 → (length ns ≡ 0 → ⊥) → by_letter forms b ns ≡ None
  unfolding forms
  no_t e h = rw (e, ne_eqb 0 (length ns) (λ q. h (sym q)))

  pub no_other : (b ≡ 112 → ⊥) → (b ≡ 111 → ⊥) → (b ≡ 105 → ⊥) → (b ≡ 115 → ⊥) → (b ≡ 108 → ⊥) → (b ≡ 99 → ⊥)
      → (b ≡ 116 → ⊥)
      → by_letter forms b ns ≡ None
  unfolding forms
  no_other p o i s l c t = simp (
    ne_eqb b 112 p,
    ne_eqb b 111 o,
    ne_eqb b 105 i,
    ne_eqb b 115 s,
    ne_eqb b 108 l,
    ne_eqb
        b 99 c,
    ne_eqb b 116 t,
  )

-- ---- what the code gives

pub record Answered (a : Outcome (List ℕ)) (printed words : List ℕ) : Type 0 where
  pub reply : printed ≡ a.reply
  pub sheet_after : words ≡ a.words

-- the outcome o of a call, whose reply r is printed
called : {T : Type 0} (line : T → List ℕ) (o : Outcome (Result T Refusal)) (a : Outcome (List ℕ)) → a ≡ in_bytes line o
    → {r : Result T Refusal} {printed words : List ℕ} → r ≡ o.reply → printed ≡ reply_printed line r → words ≡ o.words
    → Answered a printed words
called line o a e told p q = record {
  reply = p ∙ ap (reply_printed line) told ∙ sym (ap (λ (x : Outcome (List ℕ)). x.reply) e);
  sheet_after = q ∙ sym (ap (λ (x : Outcome (List ℕ)). x.words) e);
}

pub not_called : (line w : List ℕ) → command line ≡ None → {printed : List ℕ} → printed ≡ refusal Line
    → Answered (answer line w) printed w
unfolding answer
not_called line w e p = rw e (record { reply = p; sheet_after = refl })

-- ---- a line with this letter and these numbers

module _ (line w : List ℕ) (b : ℕ) (items ns : List ℕ) (read : command line ≡ by_letter forms b items)
    (same : ns ≡ items) where
  as_read : command line ≡ by_letter forms b ns
  as_read = read ∙ ap (by_letter forms b) (sym same)

  performs : (c : Command) → by_letter forms b ns ≡ Some c → answer line w ≡ performed c w
  unfolding answer
  performs c e = rw (as_read, e)

  pub by_none : by_letter forms b ns ≡ None → {printed : List ℕ} → printed ≡ refusal Line
      → Answered (answer line w) printed w
  by_none e p = not_called line w (as_read ∙ e) p

  module _ {printed words : List ℕ} where
    module _ {r : Result (Unit {0}) Refusal} (p : printed ≡ reply_printed done_line r) where
      pub by_p : b ≡ 112 → whole_stages (length ns) ≡ true → r ≡ (fresh ns no_shares w).reply
          → words ≡ (fresh ns no_shares w).words
          → Answered (answer line w) printed words
      unfolding performed
      by_p e h told q =
          called done_line (fresh ns no_shares w) (answer line w) (performs (command.fresh ns) (of_p b ns e h)) told p q

      pub by_o : b ≡ 111 → length ns ≡ 1 → r ≡ (open_lot (get_or ns 0 0) w).reply
          → words ≡ (open_lot (get_or ns 0 0) w).words
          → Answered (answer line w) printed words
      unfolding performed
      by_o e h told q =
          called done_line (open_lot (get_or ns 0 0) w) (answer line w)
          (performs (command.opening (get_or ns 0 0)) (of_o b ns e h)) told p q

      pub by_i : b ≡ 105 → length ns ≡ 2 → r ≡ (inspect (get_or ns 0 0) (get_or ns 1 0) w).reply
          → words ≡ (inspect (get_or ns 0 0) (get_or ns 1 0) w).words
          → Answered (answer line w) printed words
      unfolding performed
      by_i e h told q =
          called done_line (inspect (get_or ns 0 0) (get_or ns 1 0) w) (answer line w)
          (performs (command.inspecting (get_or ns 0 0) (get_or ns 1 0)) (of_i b ns e h)) told p q

      pub by_s : b ≡ 115 → length ns ≡ 1 → r ≡ (strike (get_or ns 0 0) w).reply
          → words ≡ (strike (get_or ns 0 0) w).words
          → Answered (answer line w) printed words
      unfolding performed
      by_s e h told q =
          called done_line (strike (get_or ns 0 0) w) (answer line w)
          (performs (command.striking (get_or ns 0 0)) (of_s b ns e h)) told p q

      pub by_c : b ≡ 99 → length ns ≡ 1 → r ≡ (close (get_or ns 0 0) w).reply → words ≡ (close (get_or ns 0 0) w).words
          → Answered (answer line w) printed words
      unfolding performed
      by_c e h told q =
          called done_line (close (get_or ns 0 0) w) (answer line w)
          (performs (command.closing (get_or ns 0 0)) (of_c b ns e h)) told p q

    pub by_l : {r : Result Shown Refusal} → b ≡ 108 → length ns ≡ 1 → r ≡ (look (get_or ns 0 0) w).reply
        → printed ≡ reply_printed look_line r
        → words ≡ w → Answered (answer line w) printed words
    unfolding performed
    by_l e h told p q =
        let n : ℕ = get_or ns 0 0 in
        called look_line (look n w) (answer line w) (performs (command.looking n) (of_l b ns e h)) told p
        (q ∙ sym (look_words n w))

    pub by_t : {r : Result Totals Refusal} → b ≡ 116 → length ns ≡ 0 → r ≡ (tally w).reply
        → printed ≡ reply_printed tally_line r
        → words ≡ w → Answered (answer line w) printed words
    unfolding performed
    by_t e h told p q = called tally_line (tally w) (answer line w) (performs command.tallying (of_t b ns e h)) told p
        (q ∙ sym (tally_words w))
