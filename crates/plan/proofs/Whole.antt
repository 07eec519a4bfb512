-- `admitted` by the number of words. Assumes nothing.
use Prim.Native.Nat.{ℕ, ◌*◌, ◌%◌, ◌≤◌, ◌<◌}
use native.Mathlib.Omega.{arith}
use mathlib.Core.Path.{◌≡◌}
use mathlib.Core.Bool.{false, and-false}
use mathlib.Core.List.{List}
use lib.ListN.{length}
use borrow.Author.Tests.{le-leb, lt-leb, eq-eqb, ne_eqb}
use Rattle.plan.specs.Plan.{stages, rules, admitted}
use Rattle.plan.proofs.Stages.{stage_count}

module _ (w : List ℕ) where
  pub not_whole : (length w % 5 ≡ 0 → ⊥) → admitted w ≡ false
  unfolding admitted
  not_whole h = simp (ne_eqb (length w) (5 * length (stages w)) (λ e. h (omega arith)))

  pub no_stage : length w < 5 → admitted w ≡ false
  unfolding admitted
  no_stage h = simp (lt-leb 1 (length (stages w)) (omega (arith, stage_count w)), and-false)

  pub too_long : length w % 5 ≡ 0 → 35 < length w → admitted w ≡ false
  unfolding admitted
  too_long e h = simp (lt-leb (length (stages w)) 7 (omega (arith, stage_count w)), and-false)

  pub by_rules : length w % 5 ≡ 0 → 5 ≤ length w → length w ≤ 35 → admitted w ≡ rules 0 (stages w)
  unfolding admitted
  by_rules e l h = simp (
    eq-eqb (length w) (5 * length (stages w)) (omega (arith, stage_count w)),
    le-leb 1 (length (stages w)) (omega (arith, stage_count w)),
    le-leb (length (stages w)) 7 (omega (arith, stage_count w)),
  )
