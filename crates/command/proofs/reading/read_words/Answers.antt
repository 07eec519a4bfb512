use Rattle.std.proofs.Common.{◌≡◌, ◌∙◌, sym, rules, arith, tests, [], get_or}
use Rattle.std.proofs.lemmas.Grind.{common_steps}
use Rattle.commandmodel.specs.Command.{numbers}
use Rattle.command.proofs.Numbers.{left, first_field, bad_number, one_more, no_room, all_read, too_long, no_letter}
use Rattle.command.proofs.Numbers.{one_letter}
use Rattle.command.proofs.reading.read_words.Goals as goal

pub returns-then-line-gt255 : goal.returns-then-line-gt255
returns-then-line-gt255 c = too_long c.args.line.now c.if-line-gt255.true

pub returns-in_default : goal.returns-in_default
returns-in_default c =
    let x = c.in_ok-next.field-0 in
    let t = c.next.new.self in
    first_field _ c.split-fields.result t x c.in_ok-next.ensures.steps (λ f a r u k. search (rules, tests))
    c.args.line.now c.split-fields.ensures.rest (omega arith)
    ∙ no_letter x.now (numbers (left t)) (λ q. grind (arith, q))

pub returns-in_default-2 : goal.returns-in_default-2
returns-in_default-2 c =
    let x = c.in_ok-next.field-0 in
    let t = c.next.new.self in
    first_field _ c.split-fields.result t x c.in_ok-next.ensures.steps (λ f a r u k. search (rules, tests))
    c.args.line.now c.split-fields.ensures.rest (omega arith)
    ∙ no_letter x.now (numbers (left t)) (λ q. grind (arith, q))

pub loop-field-init : goal.loop-field-init
loop-field-init c =
    let line = c.args.line.now in
    let x = c.in_ok-next.field-0 in
    let t = c.next.new.self in
    let kept : c.into_iter-field-iterator.result ≡ t = search rules in
    let empty : c.clear.new.self.items ≡ [] = search rules in
    rw (kept, empty) (one_letter t line x.now (omega arith)
    (first_field _ c.split-fields.result t x c.in_ok-next.ensures.steps (λ f a r u k. search (rules, tests)) line
    c.split-fields.ensures.rest (omega arith)))

pub returns-in_err-read_number : goal.returns-in_err-read_number
returns-in_err-read_number c =
    let l = c.loop-field in
    bad_number _ l.field-iterator c.next-in-loop-field.new.self c.in-Some.field c.in-Some.ensures.steps
    (λ f a r u k. search (rules, tests)) c.args.line.now
    (get_or c.in_ok-next.field-0.now 0 0) l.numbers.items l.invariant (grind (arith, common_steps)) ∙ grind (arith, common_steps)

pub loop-field-preserved : goal.loop-field-preserved
loop-field-preserved c =
    let l = c.loop-field in
    one_more _ l.field-iterator c.next-in-loop-field.new.self c.in-Some.field c.in-Some.ensures.steps
    (λ f a r u k. search (rules, tests)) c.args.line.now
    (get_or c.in_ok-next.field-0.now 0 0) l.numbers.items l.invariant c.in_ok-read_number.field-0
    (sym c.read_number.ensures ∙ c.in_ok-read_number.was)
    c.try_push.new.self.items (grind (arith, common_steps))

pub returns-in_err-ok : goal.returns-in_err-ok
returns-in_err-ok c =
    let l = c.loop-field in
    no_room _ l.field-iterator c.next-in-loop-field.new.self c.in-Some.field c.in-Some.ensures.steps
    (λ f a r u k. search (rules, tests)) c.args.line.now
    (get_or c.in_ok-next.field-0.now 0 0) l.numbers.items l.invariant c.in_ok-read_number.field-0
    (sym c.read_number.ensures ∙ c.in_ok-read_number.was)
    (grind (arith, common_steps)) ∙ grind (arith, common_steps)

pub returns : goal.returns
returns c =
    let l = c.loop-field in
    all_read l.field-iterator c.args.line.now (get_or c.in_ok-next.field-0.now 0 0) l.numbers.items l.invariant c.in-None.ensures.steps.0
