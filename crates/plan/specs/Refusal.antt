-- Refusals as data. A call lists its rows of document 01's table "Refused", refusal and condition, in the table's order. Its
-- reply is the first row that applies, else what is granted.
use Rattle.std.specs.Prelude.{ℕ, ◌+◌, ◌≤◌, ◌<◌, ◌≡◌, ◌↔◌, ◌≢◌, ◌⊎◌, Bool, true, false, cond, ◌&&◌, List, [], ◌∷◌, length, leb, ltb, eqb}
use Rattle.plan.specs.declared.refusal.Refusal.{Refusal}
use Rattle.plan.specs.declared.refusal.Refusal.TheVariants.{Size, Plan, Corrupt, Shares, NoFit, LotZero, LotOpen, NoLot, Class, Decided, NoUnit, Undecided, Full, HeldBack, TotalsFull, Weights, LotSize, Scratch, SeveralStages, Line}
use Rattle.plan.specs.Reply.{Reply, granted, refused}

-- a refusal's number in document 01, and in 02
abbrev pub number : Refusal → ℕ
number Size = 1
number Plan = 2
number Corrupt = 3
number Shares = 18
number NoFit = 20
number LotZero = 4
number LotOpen = 5
number NoLot = 6
number Class = 7
number Decided = 8
number NoUnit = 9
number Undecided = 10
number Full = 11
number HeldBack = 19
number TotalsFull = 12
number Weights = 13
number LotSize = 17
number Scratch = 14
number SeveralStages = 15
number Line = 16

-- a row of the table: the refusal, and whether the row applies
pub record Row : Type 0 where
  pub refusal : Refusal
  pub when : Bool

unfoldable pub first_refusal : {A : Type 0} → (Refusal → A) → List Row → A → A
first_refusal refuse [] grant = grant
first_refusal refuse (r ∷ rest) grant = cond r.when (refuse r.refusal) (first_refusal refuse rest grant)

-- ---- the table's order

-- the numbers of the table, in its order. Document 02 puts 17 between 13 and 14 (change 2), 18 after 2 and 19 after 11 (change 7),
-- and 18 after 3 too, with 20 after it (change 8)
abbrev pub table : List ℕ
table = 1 ∷ 2 ∷ 3 ∷ 18 ∷ 20 ∷ 4 ∷ 5 ∷ 6 ∷ 7 ∷ 8 ∷ 9 ∷ 10 ∷ 11 ∷ 19 ∷ 12 ∷ 13 ∷ 17 ∷ 14 ∷ 15 ∷ 16 ∷ []

-- how many of these numbers stand before n
abbrev pub before : ℕ → List ℕ → ℕ
before n [] = 0
before n (m ∷ rest) = cond (eqb n m) 0 (before n rest + 1)

-- the place of a number in the table
abbrev pub place : ℕ → ℕ
place n = before n table

-- each row has a number of the table, whose place is `from` or later and after that of the row before
abbrev pub in_order : ℕ → List Row → Bool
in_order from [] = true
in_order from (r ∷ rest) =
    leb from (place (number r.refusal)) && ltb (place (number r.refusal)) (length table) && in_order (place (number r.refusal) + 1) rest

-- ---- demand 1

-- a row with this refusal applies
abbrev pub Applies : List Row → Refusal → Type 0
Applies [] n = ⊥
Applies (r ∷ rest) n = ((r.when ≡ true) × (r.refusal ≡ n)) ⊎ Applies rest n

-- the first row that applies has this refusal
abbrev pub First : List Row → Refusal → Type 0
First [] n = ⊥
First (r ∷ rest) n = ((r.when ≡ true) × (r.refusal ≡ n)) ⊎ ((r.when ≡ false) × First rest n)

-- the reply is the refusal n exactly when n is the first row that applies, and no row that applies stands before it in the
-- table
pub record RefusedBy {A : Type 0} (refuse : Refusal → A) (rows : List Row) (reply : A) : Type 0 where
  pub exactly : (n : Refusal) → (reply ≡ refuse n) ↔ First rows n
  pub none_before : (n m : Refusal) → reply ≡ refuse n → Applies rows m → place (number n) ≤ place (number m)

-- of every call whose rows stand in the table's order, where no two refusals and no grant look alike
abbrev pub RefusalLaw : Type 1
RefusalLaw = (A : Type 0) (refuse : Refusal → A) (rows : List Row) (grant : A)
    → ((m n : Refusal) → refuse m ≡ refuse n → m ≡ n) → ((n : Refusal) → grant ≡ refuse n → ⊥) → in_order 0 rows ≡ true
    → RefusedBy refuse rows (first_refusal refuse rows grant)

-- the first row that applies has the number n, and a row with the number n applies
abbrev pub FirstNumber : List Row → ℕ → Type 0
FirstNumber [] n = ⊥
FirstNumber (r ∷ rest) n = ((r.when ≡ true) × (number r.refusal ≡ n)) ⊎ ((r.when ≡ false) × FirstNumber rest n)

abbrev pub AppliesNumber : List Row → ℕ → Type 0
AppliesNumber [] n = ⊥
AppliesNumber (r ∷ rest) n = ((r.when ≡ true) × (number r.refusal ≡ n)) ⊎ AppliesNumber rest n

-- the same in document 01's numbers: refused with n exactly when n is the first row that applies, and no row that applies stands
-- before it in the table. No refusal has the number 0, so 0 can stand for a grant
pub record RefusedByNumber (rows : List Row) (reply : Reply) : Type 0 where
  pub exactly : (n : ℕ) → (reply ≡ refused n) ↔ FirstNumber rows n
  pub none_before : (n m : ℕ) → reply ≡ refused n → AppliesNumber rows m → place n ≤ place m
  pub never_zero : reply ≢ refused 0

-- in numbers, the reply that is the first refusal of these rows, else these values
abbrev pub reply_in_numbers : List Row → List ℕ → Reply
reply_in_numbers rows values = first_refusal (λ r. refused (number r)) rows (granted values)

-- of every call whose rows stand in the table's order
abbrev pub NumberLaw : Type 0
NumberLaw = (rows : List Row) (values : List ℕ) → in_order 0 rows ≡ true → RefusedByNumber rows (reply_in_numbers rows values)

-- the refusals are the numbers of the table, each once
pub record TableLaw : Type 0 where
  pub differ : (m n : Refusal) → number m ≡ number n → m ≡ n
  pub in_table : (r : Refusal) → place (number r) < length table
  pub all : (n : ℕ) → place n < length table → (r : Refusal) × (number r ≡ n)

-- no row applies
abbrev pub NoneApplies : List Row → Type 0
NoneApplies [] = Unit {0}
NoneApplies (r ∷ rest) = (r.when ≡ false) × NoneApplies rest

-- what the crates above use of `first_refusal`
pub record FirstRefusal : Type 1 where
  pub refuses : (A : Type 0) (refuse : Refusal → A) (rows : List Row) (g : A) (n : Refusal) → First rows n → first_refusal refuse rows g ≡ refuse n
  pub grants : (A : Type 0) (refuse : Refusal → A) (rows : List Row) (g : A) → NoneApplies rows → first_refusal refuse rows g ≡ g
  pub passes : (A : Type 0) (refuse : Refusal → A) (r : Row) (rest : List Row) (g : A) → r.when ≡ false
      → first_refusal refuse (r ∷ rest) g ≡ first_refusal refuse rest g
  pub either : (rows : List Row) → ((n : Refusal) × First rows n) ⊎ NoneApplies rows
  -- a reply in numbers is that of its rows in numbers, where f gives a refusal its number and a grant these values
  pub mapped : (A B : Type 0) (f : A → B) (refuse : Refusal → A) (rows : List Row) (g : A)
      → f (first_refusal refuse rows g) ≡ first_refusal (λ r. f (refuse r)) rows (f g)

-- demand 1: refused with n exactly when n is the first row that applies, where no two refusals and no grant look alike
abbrev pub RefusedExactly : Type 1
RefusedExactly = (A : Type 0) (refuse : Refusal → A) (rows : List Row) (grant : A)
    → ((m n : Refusal) → refuse m ≡ refuse n → m ≡ n) → ((n : Refusal) → grant ≡ refuse n → ⊥)
    → (n : Refusal) → (first_refusal refuse rows grant ≡ refuse n) ↔ First rows n
