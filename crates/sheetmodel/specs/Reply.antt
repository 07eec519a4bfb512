-- What the calls on a sheet reply, in document 01's terms.
use Rattle.std.specs.Prelude.{[], ◌∷◌}
use Rattle.std.specs.declared.result.Result.{Result}
use Rattle.std.specs.declared.result.Result.TheVariants.{Ok, Err}
use Rattle.plan.specs.declared.refusal.Refusal.{Refusal}
use Rattle.plan.specs.Refusal.{number}
use Rattle.plan.specs.Reply.{Reply, granted, refused}
use Rattle.plan.specs.Stopping.{state}
use Rattle.sheetmodel.specs.declared.reply.Shown.{Shown}
use Rattle.sheetmodel.specs.declared.reply.Totals.{Totals}
use Rattle.sheetmodel.specs.declared.reply.Estimate.{Estimate}

-- ok gives no value
abbrev pub done_reply : Result (Unit {0}) Refusal → Reply
done_reply (Ok done) = granted []
done_reply (Err r) = refused (number r)

abbrev pub look_reply : Result Shown Refusal → Reply
look_reply (Ok s) = granted (state s.answer ∷ s.units ∷ s.good ∷ s.marginal ∷ s.bad ∷ s.blanks ∷ [])
look_reply (Err r) = refused (number r)

abbrev pub tally_reply : Result Totals Refusal → Reply
tally_reply (Ok t) = granted (t.accepted ∷ t.rejected ∷ t.good ∷ t.marginal ∷ t.bad ∷ [])
tally_reply (Err r) = refused (number r)

abbrev pub estimate_reply : Result Estimate Refusal → Reply
estimate_reply (Ok e) = granted (e.good ∷ e.marginal ∷ e.bad ∷ e.over ∷ [])
estimate_reply (Err r) = refused (number r)
