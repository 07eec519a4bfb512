-- The loop of `sheet::lots`: the lots from `at` on add to what is found. Assumes nothing.
use Rattle.std.proofs.Common.{◌≡◌, ◌-◌, ◌*◌, ◌≤◌}
use Rattle.plan.specs.Plan.{stages}
use Rattle.sheetmodel.specs.Layout.{word, records, first_lot}
use Rattle.sheetmodel.specs.Read.{read_lots}
use Rattle.sheet.specs.Survey.{nothing_found, lots_survey}
use Rattle.sheet.proofs.OfficeSteps.{Counting}
use Rattle.sheet.proofs.records.Records.lots.Given as goal

abbrev pub invariant-loop : goal.invariant-loop
invariant-loop l =
    let w = l.self.sheet.now in
    let all = read_lots l.self.first w (records w) 0 (word w first_lot) in
    let rest = read_lots l.self.first w (l.end - l.counter) l.above l.at in
    (l.found.used ≤ 1001 * l.counter) ×
    (lots_survey (stages l.self.plan.now) l.sought nothing_found all ≡ lots_survey (stages l.self.plan.now) l.sought l.found rest) ×
    Counting all rest l.held l.found.used
