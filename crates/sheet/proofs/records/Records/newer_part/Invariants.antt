-- The loop of `sheet::newer_part`: the sums are of units so far, and what is left from `next` on gives the rest. Assumes nothing.
use Rattle.std.proofs.Common.{◌≡◌, ◌-◌, ◌≤◌}
use Rattle.sheet.specs.Survey.{SumsFit, no_chain, newer_part}
use Rattle.sheet.proofs.ChainSteps.{chain_by_sums}
use Rattle.sheet.proofs.records.Records.newer_part.Given as goal

abbrev pub invariant-loop-older : goal.invariant-loop-older
invariant-loop-older l =
    (l.stop ≤ l.older) × (l.older ≤ l.serial) × SumsFit (l.serial - l.older) l.sum l.halves l.blanks ×
    (newer_part l.self.first l.self.sheet.now l.lot l.stop (l.serial - l.stop) l.at no_chain ≡
    newer_part l.self.first l.self.sheet.now l.lot l.stop (l.older - l.stop) l.next (chain_by_sums (l.serial - l.older) l.sum l.halves l.blanks))
