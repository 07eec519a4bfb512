-- The numbers so far, and those of the fields that are left, decide.
use Rattle.command.proofs.Numbers.{Reads}
use Rattle.command.proofs.reading.read_words.Given as goal

abbrev pub invariant-loop-field : goal.invariant-loop-field
invariant-loop-field l = Reads l.line l.letter l.numbers.items l.field-iterator
