-- `sheet::inspections` recurses on the number of inspections. Assumes nothing.
use Rattle.sheet.proofs.records.Records.+inspections.Given as goal

abbrev pub decreases-inspections : goal.decreases-inspections
decreases-inspections l = l.serial
