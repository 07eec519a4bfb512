-- One turn along a list of classes, how far a stop may lie, and the greatest class. Assumes nothing.
use Prim.Native.Nat.{ℕ, ◌+◌, ◌≤◌, ◌<◌, max}
use native.Mathlib.Omega.{arith}
use mathlib.Core.Path.{◌≡◌, refl, ap, sym, ◌∙◌}
use mathlib.Core.Logic.{◌≢◌}
use native.Mathlib.Decide.{dec_lt, dec_le}
use native.Mathlib.Numerals.{add-one}
use mathlib.Core.Bool.{true, ◌&&◌, and-false, and_assoc}
use mathlib.Core.List.{List, [], ◌∷◌}
use lib.ListN.{length, get_or, take, drop}
use lib.Seq.{take-suc}
use lib.Dec.{leb}
use borrow.Author.Tests.{le-leb, lt-leb}
use Rattle.plan.specs.declared.counts.Counts.{Counts}
use Rattle.plan.specs.declared.stage.Answer.{Answer}
use Rattle.plan.specs.declared.stage.Answer.TheVariants.{GoOn, Accept, Reject}
use Rattle.plan.specs.declared.ways.Way.{Way}
use Rattle.plan.specs.Plan.{stages, total, admitted}
use Rattle.plan.specs.Counts.{units, add_units, counts}
use Rattle.plan.specs.Stopping.{answer}
use Rattle.plan.specs.Sample.{highest_class, are_classes}
use Rattle.plan.proofs.Lists.{drop_next}
use Rattle.plan.proofs.Answers.{accept_stops, reject_stops}
use Rattle.plan.proofs.Promise.{promise, counting}
use Rattle.plan.proofs.Sample.{classing}
use Rattle.judge.specs.Judge.{stop_here, first_stop}

pub next_counts : (xs : List ℕ) (i : ℕ) → i < length xs → counts (take (i + 1) xs) ≡ add_units (get_or xs i 0) 1 (counts (take i xs))
next_counts xs i h = rw (add-one i) (ap counts (take-suc xs i 0 h) ∙ counting.one_more (take i xs) (get_or xs i 0))

-- the class at i, the counts d with it, and the answer a to them
pub turn : (rule : Counts → Answer) (xs : List ℕ) (i : ℕ) (c : Counts) → i < length xs →
    (d : Counts) → d ≡ add_units (get_or xs i 0) 1 c → (a : Answer) → a ≡ rule d →
    first_stop rule c (drop i xs) ≡ stop_here d a (first_stop rule d (drop (i + 1) xs))
turn rule xs i c h d e a f = rw (drop_next xs i h, ← e, ← f)

-- a stop is within S units
pub stop_within : (w : List ℕ) → admitted w ≡ true → (way : Way) (c : Counts) (xs : List ℕ) → units (first_stop (answer way (stages w)) c xs).counts ≤ total (stages w)
stop_within w e way c [] = omega arith
stop_within w e way c (x ∷ xs) = go (answer way (stages w) (add_units x 1 c)) refl (stop_within w e way (add_units x 1 c) xs)
  where
    here : (a : Answer) → answer way (stages w) (add_units x 1 c) ≡ a → a ≢ GoOn → Dec (total (stages w) < units (add_units x 1 c)) → units (add_units x 1 c) ≤ total (stages w)
    here a f n (yes l) = absurd (n (sym f ∙ (promise w e).past way (add_units x 1 c) l))
    here a f n (no l) = omega arith

    go : (a : Answer) → answer way (stages w) (add_units x 1 c) ≡ a → units (first_stop (answer way (stages w)) (add_units x 1 c) xs).counts ≤ total (stages w)
        → units (stop_here (add_units x 1 c) a (first_stop (answer way (stages w)) (add_units x 1 c) xs)).counts ≤ total (stages w)
    go GoOn f later = later
    go Accept f later = here Accept f accept_stops (dec_lt _ _)
    go Reject f later = here Reject f reject_stops (dec_lt _ _)

-- ---- the greatest class so far, and the classes from i on

leb-max : (a b n : ℕ) → leb (max a b) n ≡ (leb a n && leb b n)
leb-max a b n = go (dec_le a n) (dec_le b n)
  where
    go : Dec (a ≤ n) → Dec (b ≤ n) → leb (max a b) n ≡ (leb a n && leb b n)
    go (yes p) (yes q) = rw (le-leb a n p, le-leb b n q) (le-leb (max a b) n (omega arith))
    go (no p) q = rw (lt-leb a n (omega arith)) (lt-leb (max a b) n (omega arith))
    go (yes p) (no q) = rw (lt-leb b n (omega arith), and-false) (lt-leb (max a b) n (omega arith))

pub class_greatest : (xs : List ℕ) (i m : ℕ) → i < length xs
    → (leb m highest_class && are_classes (drop i xs)) ≡ (leb (max m (get_or xs i 0)) highest_class && are_classes (drop (i + 1) xs))
class_greatest xs i m h =
    rw (drop_next xs i h, classing.more_tested (get_or xs i 0) (drop (i + 1) xs), leb-max m (get_or xs i 0) highest_class)
    (sym (and_assoc (leb m highest_class) (leb (get_or xs i 0) highest_class) (are_classes (drop (i + 1) xs))))
