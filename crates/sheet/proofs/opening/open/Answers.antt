-- `sheet::open` meets its contract: the tests are in the order of the table. Assumes nothing.
use mathlib.Core.Path.{refl, sym}
use Rattle.std.proofs.lemmas.Result.{err_from_is_err_and}
use Rattle.sheet.proofs.LocatedFacts.{whole, whole_sheet}
use Rattle.sheet.proofs.CallSteps.{open_refused, open_zero, open_there, open_denied, open_requires, open_granted}
use Rattle.sheet.proofs.opening.open.Goals as goal

-- k: what is known where the sheet is found

pub returns-then-lot-eq0 : goal.returns-then-lot-eq0
returns-then-lot-eq0 c =
    let k = whole c.args.lot c.args.sheet.now c.in_ok-found.found (sym c.in_ok-found.ensures.value) in
    rw (open_zero _ _ _ k c.if-lot-eq0.true) (record { value = refl; sheet_after = refl })

pub returns-then-found-ne0 : goal.returns-then-found-ne0
returns-then-found-ne0 c =
    let k = whole c.args.lot c.args.sheet.now c.in_ok-found.found (sym c.in_ok-found.ensures.value) in
    rw (open_there _ _ _ k c.if-lot-eq0.false c.if-found-ne0.true) (record { value = refl; sheet_after = refl })

pub invariant_of-holdings : goal.invariant_of-holdings
invariant_of-holdings c =
    let k = whole c.args.lot c.args.sheet.now c.in_ok-found.found (sym c.in_ok-found.ensures.value) in
    record { whole = whole_sheet _ _ _ k; counted = c.in_ok-found.ensures.counted_on }

pub add_lot-requires : goal.add_lot-requires
add_lot-requires c =
    let k = whole c.args.lot c.args.sheet.now c.in_ok-found.found (sym c.in_ok-found.ensures.value) in
    open_requires _ _ _ k (sym c.in_ok-grant_record.ensures)

pub returns-in_err-found : goal.returns-in_err-found
returns-in_err-found c =
    let p = err_from_is_err_and c.from_residual.result c.from_residual.ensures.1 in
    rw (p.1, p.2) (rw (open_refused c.args.lot c.args.sheet.now _ (sym c.in_err-found.ensures.value)) (record { value = refl; sheet_after = refl }))

pub returns-in_err-grant_record : goal.returns-in_err-grant_record
returns-in_err-grant_record c =
    let k = whole c.args.lot c.args.sheet.now c.in_ok-found.found (sym c.in_ok-found.ensures.value) in
    let p = err_from_is_err_and c.from_residual-in_err-grant_record.result c.from_residual-in_err-grant_record.ensures.1 in
    rw (p.1, p.2) (rw (open_denied _ _ _ k c.if-lot-eq0.false c.if-found-ne0.false _ (sym c.in_err-grant_record.ensures)) (record { value = refl; sheet_after = refl }))

pub returns : goal.returns
returns c =
    let k = whole c.args.lot c.args.sheet.now c.in_ok-found.found (sym c.in_ok-found.ensures.value) in
    rw (open_granted _ _ _ k c.if-lot-eq0.false c.if-found-ne0.false (sym c.in_ok-grant_record.ensures))
    (record { value = refl; sheet_after = c.add_lot.ensures })
