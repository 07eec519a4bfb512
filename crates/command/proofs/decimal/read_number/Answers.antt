use Rattle.std.proofs.Common.{◌≡◌, ◌∙◌, sym, ap, arith, true, false, slice_index_or}
use Rattle.std.specs.Prelude.{ℕ, ◌<◌, Some, Result, Ok, Err, OkIff}
use Rattle.std.specs.Result.{result_ok}
use Rattle.commandmodel.specs.Decimal.{is_digit, up_to_largest, number}
use Rattle.commandmodel.proofs.Digits.{no_field, long_field, field_value, next_digit, no_digit, digit_below, all_digits}
use Rattle.commandmodel.proofs.Digits.{above_largest, within_largest}
use Rattle.command.proofs.decimal.read_number.Goals as goal

as_u32 : {E : Type 0} (n : ℕ) (r : Result ℕ E) → OkIff r (n < 4294967296) n → result_ok r ≡ up_to_largest (Some n)
as_u32 n (Ok m) h = ap Some h.1 ∙ sym (within_largest n (omega (arith, h.0)))
as_u32 n (Err e) h = sym (above_largest n (omega (arith, h)))

pub returns-then-is_empty : goal.returns-then-is_empty
returns-then-is_empty c =
    elim c.then-is_empty.branch [
      | goal.then-is_empty-via-then-is_empty w ↦ sym (no_field c.args.field.now (grind arith))
      | goal.then-is_empty-via-else-is_empty+then-field-gt10 w ↦ sym (long_field c.args.field.now w.if-field-gt10.true)
    ]

pub returns-then-not-is_ascii_digit : goal.returns-then-not-is_ascii_digit
returns-then-not-is_ascii_digit c =
    let l = c.loop-byte in
    let s = c.args.field.now in
    let other : is_digit (slice_index_or s l.byte-index 0) ≡ false = sym c.is_ascii_digit.ensures.value
    ∙ c.if-not-is_ascii_digit.true in
    sym (field_value s (grind arith) (omega arith)
    ∙ ap up_to_largest (l.invariant.so_far ∙ no_digit l.n s l.byte-index c.loop-byte-test.true other))

pub loop-byte-preserved : goal.loop-byte-preserved
loop-byte-preserved c =
    let l = c.loop-byte in
    let s = c.args.field.now in
    let digit : is_digit (slice_index_or s l.byte-index 0) ≡ true = sym c.is_ascii_digit.ensures.value
    ∙ c.if-not-is_ascii_digit.false in
    record {
      so_far = l.invariant.so_far ∙ next_digit l.n s l.byte-index c.loop-byte-test.true digit;
      below = (digit_below l.n l.byte-index (slice_index_or s l.byte-index 0) l.invariant.below (omega arith) digit).0;
    }

pub returns : goal.returns
returns c =
    let l = c.loop-byte in
    let s = c.args.field.now in
    let e = all_digits l.n s l.byte-index c.loop-byte-test.false in
    let f : number s ≡ up_to_largest (Some l.n) = field_value s (grind arith) (omega arith)
    ∙ ap up_to_largest (l.invariant.so_far ∙ e) in
    c.ok.ensures.value ∙ as_u32 l.n c.try_from.result c.try_from.ensures ∙ sym f
