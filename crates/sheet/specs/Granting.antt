-- A record that is needed: refused by the rows about it, or granted.
use Rattle.std.specs.Prelude.{List}
use Rattle.std.specs.declared.result.Result.{Result}
use Rattle.std.specs.declared.result.Result.TheVariants.{Ok, Err}
use Rattle.plan.specs.declared.refusal.Refusal.{Refusal}
use Rattle.plan.specs.Refusal.{Row, first_refusal}

abbrev pub grant_by : List Row → Result (Unit {0}) Refusal
grant_by rows = first_refusal Err rows (Ok tt)
