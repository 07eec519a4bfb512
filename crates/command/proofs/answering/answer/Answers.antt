use Rattle.std.proofs.Common.{◌≡◌, ◌∙◌, refl, sym, arith}
use Rattle.std.specs.Prelude.{None}
use Rattle.commandmodel.specs.Command.{forms, by_letter}
use Rattle.command.proofs.Letters.{by_p, by_o, by_i, by_s, by_l, by_c, by_t, by_none, not_called}
use Rattle.command.proofs.Letters.{no_p, no_o, no_i, no_s, no_l, no_c, no_t, no_other}
use Rattle.command.proofs.answering.answer.Goals as goal

pub returns-in_default : goal.returns-in_default
returns-in_default c =
    let a = not_called c.args.line.now c.args.sheet.now c.in_default.ensures c.refused.ensures in
    record { reply_after = a.reply; sheet_after = a.sheet_after }

pub returns-in-112-default : goal.returns-in-112-default
returns-in-112-default c =
    let a = by_p c.args.line.now c.args.sheet.now _ _ _ c.in-Some.ensures c.as_slice-plan.ensures.value
    c.printed.ensures c.in-112-default.is-0 (sym c.whole_stages.ensures ∙ c.if-whole_stages.true)
    c.fresh.ensures.value c.fresh.ensures.sheet_after in
    record { reply_after = a.reply; sheet_after = a.sheet_after }

pub returns-in-111-len1 : goal.returns-in-111-len1
returns-in-111-len1 c =
    let a = by_o c.args.line.now c.args.sheet.now _ _ _ c.in-Some.ensures c.as_slice-plan.ensures.value
    c.printed-in-111-len1.ensures c.in-111-len1.is-0 (omega arith)
    c.open.ensures.value c.open.ensures.sheet_after in
    record { reply_after = a.reply; sheet_after = a.sheet_after }

pub returns-in-105-len2 : goal.returns-in-105-len2
returns-in-105-len2 c =
    let a = by_i c.args.line.now c.args.sheet.now _ _ _ c.in-Some.ensures c.as_slice-plan.ensures.value
    c.printed-in-105-len2.ensures c.in-105-len2.is-0 (omega arith)
    c.inspect.ensures.value c.inspect.ensures.sheet_after in
    record { reply_after = a.reply; sheet_after = a.sheet_after }

pub returns-in-115-len1 : goal.returns-in-115-len1
returns-in-115-len1 c =
    let a = by_s c.args.line.now c.args.sheet.now _ _ _ c.in-Some.ensures c.as_slice-plan.ensures.value
    c.printed-in-115-len1.ensures c.in-115-len1.is-0 (omega arith)
    c.strike.ensures.value c.strike.ensures.sheet_after in
    record { reply_after = a.reply; sheet_after = a.sheet_after }

pub returns-in-108-len1 : goal.returns-in-108-len1
returns-in-108-len1 c =
    let a = by_l c.args.line.now c.args.sheet.now _ _ _ c.in-Some.ensures c.as_slice-plan.ensures.value
    c.in-108-len1.is-0 (omega arith) c.look.ensures c.printed-in-108-len1.ensures refl in
    record { reply_after = a.reply; sheet_after = a.sheet_after }

pub returns-in-99-len1 : goal.returns-in-99-len1
returns-in-99-len1 c =
    let a = by_c c.args.line.now c.args.sheet.now _ _ _ c.in-Some.ensures c.as_slice-plan.ensures.value
    c.printed-in-99-len1.ensures c.in-99-len1.is-0 (omega arith)
    c.close.ensures.value c.close.ensures.sheet_after in
    record { reply_after = a.reply; sheet_after = a.sheet_after }

pub returns-in-116-empty : goal.returns-in-116-empty
returns-in-116-empty c =
    let a = by_t c.args.line.now c.args.sheet.now _ _ _ c.in-Some.ensures c.as_slice-plan.ensures.value
    c.in-116-empty.is-0 (omega arith) c.tally.ensures c.printed-in-116-empty.ensures refl in
    record { reply_after = a.reply; sheet_after = a.sheet_after }

pub returns-in_default-2 : goal.returns-in_default-2
returns-in_default-2 c =
    let ns = c.as_slice-plan.result.now in
    let b = c.in-Some.letter in
    let none : by_letter forms b ns ≡ None = elim c.in_default-2.branch [
      | goal.in_default-2-via-in-112-default+else-whole_stages w ↦ no_p b ns (grind arith)
          (sym w.whole_stages.ensures ∙ w.if-whole_stages.false)
      | goal.in_default-2-via-in-111+then-this-lt1 w ↦ no_o b ns (grind arith) (λ q. grind (arith, q))
      | goal.in_default-2-via-in-111+else-this-lt1+else-this-lt2 w ↦ no_o b ns (grind arith) (λ q. grind (arith, q))
      | goal.in_default-2-via-in-105+then-this-lt2-2 w ↦ no_i b ns (grind arith) (λ q. grind (arith, q))
      | goal.in_default-2-via-in-105+else-this-lt2-2+else-this-lt3 w ↦ no_i b ns (grind arith) (λ q. grind (arith, q))
      | goal.in_default-2-via-in-115+then-this-lt1-2 w ↦ no_s b ns (grind arith) (λ q. grind (arith, q))
      | goal.in_default-2-via-in-115+else-this-lt1-2+else-this-lt2-3 w ↦ no_s b ns (grind arith) (λ q. grind (arith, q))
      | goal.in_default-2-via-in-108+then-this-lt1-3 w ↦ no_l b ns (grind arith) (λ q. grind (arith, q))
      | goal.in_default-2-via-in-108+else-this-lt1-3+else-this-lt2-4 w ↦ no_l b ns (grind arith) (λ q. grind (arith, q))
      | goal.in_default-2-via-in-99+then-this-lt1-4 w ↦ no_c b ns (grind arith) (λ q. grind (arith, q))
      | goal.in_default-2-via-in-99+else-this-lt1-4+else-this-lt2-5 w ↦ no_c b ns (grind arith) (λ q. grind (arith, q))
      | goal.in_default-2-via-in-116+else-this-lt1-5 w ↦ no_t b ns (grind arith) (λ q. grind (arith, q))
      | goal.in_default-2-via-in_default w ↦ let o = w.in_default-2.is-0 in no_other b ns o.0.0.0.0.0.0.1 o.0.0.0.0.0.1
          o.0.0.0.0.1 o.0.0.0.1 o.0.0.1 o.0.1 o.1
    ] in
    let a = by_none c.args.line.now c.args.sheet.now b _ ns c.in-Some.ensures c.as_slice-plan.ensures.value none
    c.refused-in_default-2.ensures in
    record { reply_after = a.reply; sheet_after = a.sheet_after }
