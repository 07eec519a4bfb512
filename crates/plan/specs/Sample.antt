-- Samples, their uncurtailed verdict, and stopping rules. Document 01, "Sheet".
use Rattle.std.specs.Prelude.{ℕ, ◌≤◌, ◌<◌, ◌≡◌, ◌↔◌, ◌≢◌, Bool, true, ◌&&◌, List, [], ◌∷◌, ◌++◌, length, take, leb}
use Rattle.plan.specs.declared.stage.Answer.{Answer}
use Rattle.plan.specs.declared.stage.Answer.TheVariants.{GoOn}
use Rattle.plan.specs.declared.stage.Stage.{Stage}
use Rattle.plan.specs.Plan.{total}
use Rattle.plan.specs.Counts.{counts}
use Rattle.plan.specs.Stopping.{at_end, first_answer}

-- ---- classes

-- the highest class that a unit may have
abbrev pub highest_class : ℕ
highest_class = 3

-- each class is one that a unit may have
unfoldable pub Classes : List ℕ → Type 0
Classes [] = Unit {0}
Classes (x ∷ xs) = (x ≤ highest_class) × Classes xs

-- the same as a test
unfoldable pub are_classes : List ℕ → Bool
are_classes [] = true
are_classes (x ∷ xs) = leb x highest_class && are_classes xs

-- what the layers above use of the two
pub record Classing : Type 0 where
  pub tested : (xs : List ℕ) → (are_classes xs ≡ true) ↔ Classes xs
  pub none : Classes []
  pub more : (x : ℕ) (xs : List ℕ) → x ≤ highest_class → Classes xs → Classes (x ∷ xs)
  pub first : (x : ℕ) (xs : List ℕ) → Classes (x ∷ xs) → x ≤ highest_class
  pub rest : (x : ℕ) (xs : List ℕ) → Classes (x ∷ xs) → Classes xs
  pub appended : (h x : List ℕ) → Classes h → Classes x → Classes (h ++ x)
  pub taken : (y : ℕ) (h : List ℕ) → Classes h → Classes (take y h)
  -- the test, class by class
  pub none_tested : are_classes [] ≡ true
  pub more_tested : (x : ℕ) (xs : List ℕ) → are_classes (x ∷ xs) ≡ (leb x highest_class && are_classes xs)

-- ---- samples

-- the uncurtailed verdict of a sample: that of the first stage at whose end uncurtailed does not go on
unfoldable pub verdict : List Stage → List ℕ → Answer
verdict p x = first_answer (λ end s. at_end s (counts (take end x))) 0 p

-- a completion of the history h: a complete sample, S units of any classes, that begins with h
pub record Completion (p : List Stage) (h x : List ℕ) : Type 0 where
  pub complete : length x ≡ total p
  pub classes : Classes x
  pub begins : take (length h) x ≡ h

-- all completions of h have the uncurtailed verdict v
abbrev pub AllHave : List Stage → List ℕ → Answer → Type 0
AllHave p h v = (x : List ℕ) → Completion p h x → verdict p x ≡ v

-- a stopping rule answers to the classes read so far
abbrev pub Rule : Type 0
Rule = List ℕ → Answer

-- on the list x the rule stops after y units, none included, with the verdict v
pub record Stops (rule : Rule) (x : List ℕ) (y : ℕ) (v : Answer) : Type 0 where
  pub within : y ≤ length x
  pub there : rule (take y x) ≡ v
  pub decides : v ≢ GoOn
  pub first : (z : ℕ) → z < y → rule (take z x) ≡ GoOn

-- the rule gives the uncurtailed verdict on every complete sample
abbrev pub Faithful : List Stage → Rule → Type 0
Faithful p rule = (x : List ℕ) → Completion p [] x → (y : ℕ) × Stops rule x y (verdict p x)
