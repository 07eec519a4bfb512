-- What stays where the totals grow. Assumes nothing.
use Prim.Native.Nat.{ℕ, ◌≤◌, ◌<◌}
use mathlib.Core.Path.{◌≡◌}
use mathlib.Core.Logic.{◌≢◌}
use mathlib.Core.List.{List}
use native.Mathlib.Omega.{arith}
use lib.ListN.{length}
use Rattle.plan.specs.declared.counts.Counts.{Counts}
use Rattle.plan.specs.declared.stage.Answer.{Answer}
use Rattle.plan.specs.declared.stage.Answer.TheVariants.{GoOn, Accept, Reject}
use Rattle.sheetmodel.specs.Layout.{least_size, header_size, word, accepted_lots, rejected_lots}
use Rattle.sheetmodel.specs.Calls.{add_to, lots_total, add_totals}
use Rattle.sheetmodel.proofs.ForSheet.{Added, added, Totalled, totalled}

pub lots_total_in : (a : Answer) → (accepted_lots ≤ lots_total a) × (lots_total a ≤ rejected_lots)
lots_total_in GoOn = omega arith
lots_total_in Accept = omega arith
lots_total_in Reject = omega arith

pub other_kept : (w v : List ℕ) (i n k : ℕ) → least_size ≤ length w → i < header_size → v ≡ add_to w i n → k ≢ i → word v k ≡ word w k
other_kept w v i n k l b e d = let a : Added w (add_to w i n) i n = added w i n l b in rw e (a.other k d)

pub all_totalled : (w : List ℕ) (a : Answer) (c : Counts) → least_size ≤ length w → Totalled w (add_totals w a c) (lots_total a) 1 c
unfolding add_totals
all_totalled w a c l = totalled w (lots_total a) 1 c l (omega (arith, lots_total_in a))
