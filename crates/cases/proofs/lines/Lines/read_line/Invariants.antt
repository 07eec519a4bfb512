-- No more bytes are kept than the line has room for.
use Rattle.std.proofs.Common.{◌≤◌, length}
use Rattle.cases.proofs.lines.Lines.read_line.Given as goal

abbrev pub invariant-loop : goal.invariant-loop
invariant-loop g l = l.n ≤ length l.line
