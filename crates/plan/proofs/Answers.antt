-- The three answers differ. Assumes nothing.
use Prim.Native.Nat.{ℕ}
use native.Mathlib.Omega.{arith}
use mathlib.Core.Bool.{true}
use mathlib.Core.Path.{◌≡◌, refl}
use mathlib.Core.Logic.{◌≢◌}
use Rattle.plan.specs.declared.stage.Answer.{Answer}
use Rattle.plan.specs.declared.stage.Answer.TheVariants.{GoOn, Accept, Reject}
use Rattle.plan.specs.Stopping.{goes_on}

pub accept_stops : Accept ≢ GoOn
accept_stops e = let z : ◌≡◌ {A = ℕ} 0 1 = cc in omega arith

pub reject_stops : Reject ≢ GoOn
reject_stops e = let z : ◌≡◌ {A = ℕ} 0 1 = cc in omega arith

pub accept_not_reject : Accept ≢ Reject
accept_not_reject e = let z : ◌≡◌ {A = ℕ} 0 1 = cc in omega arith

pub going_on : (v : Answer) → goes_on v ≡ true → v ≡ GoOn
going_on GoOn e = refl
going_on Accept e = cc
going_on Reject e = cc
