-- `sheet::free_inspections` meets its contract. Assumes nothing.
use Rattle.std.proofs.Common.{◌≡◌, ◌-◌, ◌+◌, arith}
use Rattle.sheet.proofs.FreedChain.{left_start, left_in, left_step, left_done}
use Rattle.sheet.proofs.freeing.free_inspections.Goals as goal

pub loop-init : goal.loop-init
loop-init c =
    let all : c.args.count - 0 ≡ c.args.count = omega arith in
    rw all (left_start c.args.sheet.now c.args.lot c.args.count c.args.newest c.requires.freeing c.requires.whole_chain)

pub field_of-older-requires : goal.field_of-older-requires
field_of-older-requires c = let inside = left_in c.loop.invariant (omega arith) in omega (arith, inside)

pub free_record-requires : goal.free_record-requires
free_record-requires c =
    let f = c.loop.invariant.can in
    (record { sized = f.sized; front = f.front; deep = omega arith }, left_in c.loop.invariant (omega arith))

pub loop-preserved : goal.loop-preserved
loop-preserved c =
    let one : c.args.count - c.loop.counter - 1 ≡ c.args.count - (c.loop.counter + 1) = omega arith in
    rw (← one, c.free_record.ensures, c.field_of-older.ensures) (left_step c.loop.invariant (omega arith))

pub returns : goal.returns
returns c =
    let done = left_done c.loop.invariant (omega arith) in
    record { still_freeing = done.0; sheet_after = done.1 }
