-- No faithful rule stops sooner than the earliest stop, which is itself faithful; and it is the stop of 01's words.
-- Assumes nothing.
use Prim.Native.Nat.{ℕ, zero, suc, ◌-◌, ◌≤◌, ◌<◌}
use mathlib.Core.Path.{◌≡◌, refl, sym, ap, ◌∙◌}
use mathlib.Core.Logic.{◌↔◌, ◌≢◌, ◌⊎◌, inl, inr}
use mathlib.Core.List.{List, ◌++◌}
use native.Mathlib.Omega.{arith}
use native.Mathlib.Decide.{dec_lt}
use lib.ListN.{length, take, replicate}
use lib.Seq.{length-take-le, take-take}
use Rattle.plan.specs.declared.stage.Answer.{Answer}
use Rattle.plan.specs.declared.stage.Answer.TheVariants.{GoOn, Accept, Reject}
use Rattle.plan.specs.declared.stage.Stage.{Stage}
use Rattle.plan.specs.Plan.{total}
use Rattle.plan.specs.Counts.{counts}
use Rattle.plan.specs.Stopping.{earliest}
use Rattle.plan.specs.Sample.{Classes, verdict, AllHave, Rule, Stops, Faithful}
use Rattle.plan.specs.Promise.{earliest_rule, History, Least, Best}
use Rattle.plan.proofs.FirstPlace.{Never, First, first}
use Rattle.plan.proofs.Limits.{Limits}
use Rattle.plan.proofs.Sample.{classes_take}
use Rattle.plan.proofs.Verdicts.{filled, history_take, Right, right, settles, no_longer, decided, verdict_decides}

-- two samples that agree up to a stop of the rule on the one: the rule stops there on the other, with the same verdict
one_stop : (rule : Rule) (x x' : List ℕ) (y y' : ℕ) (v v' : Answer) → take y x ≡ take y x' → Stops rule x y v → Stops rule x' y' v' → v' ≡ v
one_stop rule x x' y y' v v' e s s' = go (dec_lt y y') (dec_lt y' y)
  where
    go : Dec (y < y') → Dec (y' < y) → v' ≡ v
    go (yes l) d = absurd (s.decides (cc (s.there, s'.first y l)))
    go (no n) (yes l) =
        let same : take y' x ≡ take y' x' = sym (take-take y' y x (omega arith)) ∙ ap (take y') e ∙ take-take y' y x' (omega arith) in
        absurd (s'.decides (cc (s'.there, s.first y' l)))
    go (no n) (no m) =
        let same : y ≡ y' = omega arith in
        cc (s.there, s'.there)

-- what a decided history shows, all its completions have
pub all_have : (p : List Stage) (h : List ℕ) → Right p h → (v : Answer) → v ≢ GoOn → earliest p (counts h) ≡ v → AllHave p h v
all_have p h r GoOn n e = absurd (n refl)
all_have p h r Accept n e = r.accepted.0 e
all_have p h r Reject n e = r.rejected.0 e

module _ (p : List Stage) (l : Limits p) where
  -- the beginning of a list up to which no unit stops
  pub history : (x : List ℕ) (y : ℕ) → Classes x → y ≤ length x → ((z : ℕ) → z < y → earliest_rule p (take z x) ≡ GoOn) → History p (take y x)
  history x y c w o =
      let n : length (take y x) ≡ y = length-take-le y x w in
      record { classes = classes_take y x c; undecided_before = λ z k. rw (take-take z y x (omega arith)) (o z (omega arith)) }

  -- all completions of a history have only a verdict that decides
  one_verdict : (h : List ℕ) → History p h → (v : Answer) → AllHave p h v → v ≢ GoOn
  one_verdict h k v f g =
      let x : List ℕ = h ++ replicate (total p - length h) 0 in
      verdict_decides p l x (f x (filled 0 p h (omega arith) k.classes (no_longer p l h k)) ∙ g)

  pub best : (h : List ℕ) → History p h → Best p h
  best h k rule faithful x q y v s = go (dec_lt y (length h))
    where
      agree : y < length h → AllHave p (take y h) v
      agree m x' q' =
          let r = faithful x' (record { complete = q'.complete; classes = q'.classes; begins = refl }) in
          let here : take y x ≡ take y h = sym (take-take y (length h) x (omega arith)) ∙ ap (take y) q.begins in
          let there : take y x' ≡ take y h = rw (length-take-le y h (omega arith)) at q'.begins in
          one_stop rule x x' y r.0 v (verdict p x') (here ∙ sym there) s r.1

      go : Dec (y < length h) → length h ≤ y
      go (no m) = omega arith
      go (yes m) =
          let r = right p l (take y h) (history_take p h y (omega arith) k) in
          absurd (s.decides (sym (settles p (take y h) r v s.decides (agree m)) ∙ k.undecided_before y m))

  pub faithful : Faithful p (earliest_rule p)
  faithful x q = go (first f (suc (total p)))
    where
      f : ℕ → Answer
      f y = earliest_rule p (take y x)

      go : Never f (suc (total p)) ⊎ First f (suc (total p)) → (y : ℕ) × Stops (earliest_rule p) x y (verdict p x)
      go (inl o) =
          absurd (decided p l (take (total p) x) (history x (total p) q.classes (omega (arith, q.complete)) (λ z m. o z (omega arith)))
          (length-take-le (total p) x (omega (arith, q.complete))) (o (total p) (omega arith)))
      go (inr t) =
          let w : t.at ≤ length x = omega (arith, t.before, q.complete) in
          let h : List ℕ = take t.at x in
          let e : verdict p x ≡ f t.at = all_have p h (right p l h (history x t.at q.classes w t.never)) (f t.at) t.stops refl x
          (record { complete = q.complete; classes = q.classes; begins = ap (λ (n : ℕ). take n x) (length-take-le t.at x w) }) in
          (t.at, record { within = w; there = sym e; decides = λ g. t.stops (sym e ∙ g); first = t.never })

  -- ---- 01's own words

  is_least : (x : List ℕ) → Classes x → (y : ℕ) (v : Answer) → Stops (earliest_rule p) x y v → Least p x y v
  is_least x c y v s = record {
    within = s.within;
    one_verdict = all_have p (take y x) (right p l (take y x) (history x y c s.within s.first)) v s.decides s.there;
    least = λ z m u f.
        let k : History p (take z x) = history x z c (omega (arith, s.within)) (λ z' m'. s.first z' (omega arith)) in
        one_verdict (take z x) k u f (sym (settles p (take z x) (right p l (take z x) k) u (one_verdict (take z x) k u f) f) ∙ s.first z m);
  }

  undecided_until : (x : List ℕ) → Classes x → (y : ℕ) (v : Answer) → Least p x y v → (n : ℕ) → n ≤ y → (z : ℕ) → z < n → earliest_rule p (take z x) ≡ GoOn
  undecided_until x c y v t zero m z k = absurd (omega arith)
  undecided_until x c y v t (suc n) m z k = go (undecided_until x c y v t n (omega arith)) (dec_lt z n)
    where
      here : ((z' : ℕ) → z' < n → earliest_rule p (take z' x) ≡ GoOn) → (a : Answer) → earliest_rule p (take n x) ≡ a → earliest_rule p (take n x) ≡ GoOn
      here o GoOn e = e
      here o Accept e =
          let r = right p l (take n x) (history x n c (omega (arith, t.within)) o) in absurd (t.least n (omega arith) Accept (r.accepted.0 e))
      here o Reject e =
          let r = right p l (take n x) (history x n c (omega (arith, t.within)) o) in absurd (t.least n (omega arith) Reject (r.rejected.0 e))

      go : ((z' : ℕ) → z' < n → earliest_rule p (take z' x) ≡ GoOn) → Dec (z < n) → earliest_rule p (take z x) ≡ GoOn
      go o (yes q) = o z q
      go o (no q) = let e : z ≡ n = omega arith in rw e (here o _ refl)

  stops_there : (x : List ℕ) → Classes x → (y : ℕ) (v : Answer) → Least p x y v → Stops (earliest_rule p) x y v
  stops_there x c y v t =
      let o = undecided_until x c y v t y (omega arith) in
      let k : History p (take y x) = history x y c t.within o in
      let d : v ≢ GoOn = one_verdict (take y x) k v t.one_verdict in
      record { within = t.within; there = settles p (take y x) (right p l (take y x) k) v d t.one_verdict; decides = d; first = o }

  pub earliest_stop : (x : List ℕ) → Classes x → (y : ℕ) (v : Answer) → Stops (earliest_rule p) x y v ↔ Least p x y v
  earliest_stop x c y v = (is_least x c y v, stops_there x c y v)
