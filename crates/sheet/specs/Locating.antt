-- What is found for a lot's number, behind the first rows of the table.
use Rattle.std.specs.Prelude.{ℕ, List}
use Rattle.std.specs.declared.result.Result.{Result}
use Rattle.std.specs.declared.result.Result.TheVariants.{Ok, Err}
use Rattle.plan.specs.declared.refusal.Refusal.{Refusal}
use Rattle.plan.specs.Refusal.{Row, first_refusal}
use Rattle.sheet.specs.declared.survey.Found.{Found}
use Rattle.sheetmodel.specs.Contents.{find, records_of}
use Rattle.sheetmodel.specs.Calls.{contents, predecessor, sheet_rows}
use Rattle.sheet.specs.Survey.{found}

abbrev pub found_on : ℕ → List ℕ → Found
found_on n w = found n (find n (contents w).lots) (predecessor n w) (records_of (contents w).lots)

-- refused by the rows of every sheet or by these others; else what is found
abbrev pub located : ℕ → List ℕ → List Row → Result Found Refusal
located n w others = first_refusal Err (sheet_rows w others) (Ok (found_on n w))
