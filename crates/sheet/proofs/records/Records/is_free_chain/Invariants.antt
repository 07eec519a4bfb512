-- The loop of `sheet::is_free_chain`: what is left of the chain decides. Assumes nothing.
use Rattle.std.proofs.Common.{◌≡◌}
use Rattle.sheetmodel.specs.Read.{read_free}
use Rattle.sheetmodel.specs.Rows.{is_some}
use Rattle.sheet.proofs.records.Records.is_free_chain.Given as goal

abbrev pub invariant-loop-older : goal.invariant-loop-older
invariant-loop-older l =
    is_some (read_free l.self.first l.self.sheet.now l.depth l.at) ≡ is_some (read_free l.self.first l.self.sheet.now l.older l.next)
