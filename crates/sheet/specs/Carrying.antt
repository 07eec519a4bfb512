-- What carry needs of an old sheet and of the words into which it is carried, and a record of it there. Document 02, change 8.
use Rattle.std.specs.Prelude.{ℕ, ◌+◌, ◌≤◌, List, length}
use Rattle.sheet.specs.declared.record.Record.{Record}
use Rattle.sheetmodel.specs.Layout.{greatest_size, word, records, next_unused, old_least_size, old_first_record}
use Rattle.sheetmodel.specs.Holds.{LinksBelow}
use Rattle.sheetmodel.specs.Carry.{raised}

-- the records of the old sheet lie within it, all links are below the next never used, and the words have room for them
pub record Carrying (old w : List ℕ) : Type 0 where
  pub long : old_least_size ≤ length old
  pub short : length old ≤ greatest_size
  pub begun : old_first_record ≤ word old next_unused
  pub inside : word old next_unused ≤ records old
  pub links : LinksBelow old_first_record old
  pub room : word old next_unused + 4 ≤ records w
  pub few : length w ≤ greatest_size

abbrev pub raised_record : Record → Record
raised_record r = record { value = r.value; next = raised r.next; link = raised r.link; tag = r.tag }
