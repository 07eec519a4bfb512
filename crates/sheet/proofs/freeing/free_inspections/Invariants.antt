-- `sheet::free_inspections` meets its contract. The loop's invariant is what is left to free. Assumes nothing.
use Rattle.std.proofs.Common.{◌-◌}
use Rattle.sheetmodel.specs.Calls.{free_inspections}
use Rattle.sheet.specs.Writes.{chain}
use Rattle.sheet.proofs.FreedChain.{Left}
use Rattle.sheet.proofs.freeing.free_inspections.Given as goal

abbrev pub invariant-loop : goal.invariant-loop
invariant-loop l = Left (free_inspections l.initial.sheet (chain l.initial.sheet l.lot l.count l.newest)) l.sheet l.lot (l.count - l.counter) l.at
