-- `sheet::add_totals` meets its contract. Each total is read after the ones before it grew, which leaves it as it was.
-- Assumes nothing.
use Prim.Native.Nat.{ℕ, ◌≤◌}
use mathlib.Core.Path.{◌≡◌}
use native.Mathlib.Omega.{arith}
use Rattle.sheetmodel.specs.Layout.{word, rejected_lots, good_units, marginal_units, bad_units}
use Rattle.sheetmodel.specs.Calls.{add_totals}
use Rattle.sheet.proofs.TotalsKept.{lots_total_in, other_kept}
use Rattle.sheet.proofs.totals.add_totals.Goals as goal

pub add_to-requires-2 : goal.add_to-requires-2
add_to-requires-2 c =
    let after_lots : (k : ℕ) → good_units ≤ k → word c.add_to.new.sheet k ≡ word c.args.sheet.now k = λ k h. let l : c.lots_total.result ≤ rejected_lots = omega (arith, c.lots_total.ensures, lots_total_in c.args.answer) in
    other_kept c.args.sheet.now c.add_to.new.sheet c.lots_total.result 1 k c.requires.long (omega arith) c.add_to.ensures (omega arith) in
    omega (arith, after_lots good_units (omega arith))

pub add_to-requires-3 : goal.add_to-requires-3
add_to-requires-3 c =
    let after_lots : (k : ℕ) → good_units ≤ k → word c.add_to.new.sheet k ≡ word c.args.sheet.now k = λ k h. let l : c.lots_total.result ≤ rejected_lots = omega (arith, c.lots_total.ensures, lots_total_in c.args.answer) in
    other_kept c.args.sheet.now c.add_to.new.sheet c.lots_total.result 1 k c.requires.long (omega arith) c.add_to.ensures (omega arith) in
    let after_good : (k : ℕ) → marginal_units ≤ k → word c.add_to-2.new.sheet k ≡ word c.add_to.new.sheet k = λ k h. other_kept c.add_to.new.sheet c.add_to-2.new.sheet good_units c.args.c.good k (omega (arith, c.add_to.auto.sheet)) (omega arith) c.add_to-2.ensures (omega arith) in
    omega (arith, after_good marginal_units (omega arith), after_lots marginal_units (omega arith))

pub add_to-requires-4 : goal.add_to-requires-4
add_to-requires-4 c =
    let after_lots : (k : ℕ) → good_units ≤ k → word c.add_to.new.sheet k ≡ word c.args.sheet.now k = λ k h. let l : c.lots_total.result ≤ rejected_lots = omega (arith, c.lots_total.ensures, lots_total_in c.args.answer) in
    other_kept c.args.sheet.now c.add_to.new.sheet c.lots_total.result 1 k c.requires.long (omega arith) c.add_to.ensures (omega arith) in
    let after_good : (k : ℕ) → marginal_units ≤ k → word c.add_to-2.new.sheet k ≡ word c.add_to.new.sheet k = λ k h. other_kept c.add_to.new.sheet c.add_to-2.new.sheet good_units c.args.c.good k (omega (arith, c.add_to.auto.sheet)) (omega arith) c.add_to-2.ensures (omega arith) in
    let after_marginal = other_kept c.add_to-2.new.sheet c.add_to-3.new.sheet marginal_units c.args.c.marginal bad_units (omega arith) (omega arith) c.add_to-3.ensures (omega arith) in
    omega (arith, after_marginal, after_good bad_units (omega arith), after_lots bad_units (omega arith))

pub returns : goal.returns
unfolding add_totals
returns c = cc
