-- The digits from the place on, after the number n so far, decide; n has at most as many digits as stand before.
use Rattle.std.proofs.Common.{◌≡◌, ◌<◌, ◌^◌, drop}
use Rattle.commandmodel.specs.Decimal.{with_digits}
use Rattle.command.proofs.decimal.read_number.Given as goal

abbrev pub invariant-loop-byte : goal.invariant-loop-byte
invariant-loop-byte l = record {
  so_far : with_digits 0 l.field ≡ with_digits l.n (drop l.byte-index l.field);
  below : l.n < 10 ^ l.byte-index;
}
