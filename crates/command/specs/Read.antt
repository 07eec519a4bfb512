-- What the letter and the numbers that the code reads from a line stand for.
use Rattle.std.specs.Prelude.{ℕ, List, Option, None, Some}
use Rattle.commandmodel.specs.Command.{Command, forms, by_letter}

abbrev pub meaning : Option ℕ → List ℕ → Option Command
meaning None ns = None
meaning (Some letter) ns = by_letter forms letter ns
