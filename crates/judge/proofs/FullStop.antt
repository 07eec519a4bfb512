-- What a stop of full on one stage says of the units, from its tests there and one unit before. Assumes nothing.
use Prim.Native.Nat.{ℕ, ◌≤◌}
use native.Mathlib.Omega.{arith}
use mathlib.Core.Path.{◌≡◌}
use mathlib.Core.Logic.{inl, inr, ⊎_elim}
use mathlib.Core.List.{List}
use lib.ListN.{get_or}
use Rattle.plan.specs.declared.counts.Counts.{Counts}
use Rattle.plan.specs.declared.stage.Answer.TheVariants.{GoOn, Accept, Reject}
use Rattle.plan.specs.declared.ways.StageWay.TheVariants.{Full}
use Rattle.plan.specs.Plan.{stages}
use Rattle.plan.specs.Counts.{units, add_units}
use Rattle.plan.specs.Stopping.{staged}
use Rattle.plan.specs.Promise.{OneStage}
use Rattle.plan.proofs.Promise.{counting}
use Rattle.judge.proofs.Events.{Accepted, Rejected}

-- the last unit has the class x, and full went on before it
module _ (w : List ℕ) (o : OneStage w) (x : ℕ) (b : Counts) (u : units (add_units x 1 b) ≤ get_or w 0 0) (g : staged Full (stages w) b ≡ GoOn) where
  before : units b ≤ get_or w 0 0
  before = omega (arith, counting.more x 1 b)

  pub at_acceptance : staged Full (stages w) (add_units x 1 b) ≡ Accept → Accepted (get_or w 0 0) (get_or w 2 0) (get_or w 4 0) (add_units x 1 b)
  at_acceptance e =
      let t = counting.more x 1 b in
      let a = (o.full_accepts (add_units x 1 b) u).0 e in
      record {
        rows = o.rows;
        within = o.within;
        bad = omega (arith, a.0);
        nongood = omega (arith, a.1);
        good_from = omega (arith, a.1, o.within);
        nonbad_from = omega (arith, a.0, o.within, o.rows);
        just = ⊎_elim (λ k. inl (omega (arith, a.0, o.within, o.rows))) (λ k. inr (omega (arith, a.1, o.within))) ((o.full_goes_on b before).0 g).2;
      }

  pub at_rejection : staged Full (stages w) (add_units x 1 b) ≡ Reject → Rejected (get_or w 0 0) (get_or w 2 0) (get_or w 4 0) (add_units x 1 b)
  at_rejection e =
      let t = counting.more x 1 b in
      let h = (o.full_goes_on b before).0 g in
      record {
        rows = o.rows;
        within = o.within;
        units = u;
        bad_to = omega (arith, h.0);
        nongood_to = omega (arith, h.1);
        just = ⊎_elim (λ k. inr (omega (arith, h.1))) (λ k. inl (omega (arith, h.0))) ((o.full_rejects (add_units x 1 b) u).0 e);
      }
