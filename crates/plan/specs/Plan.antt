-- A sampling plan: a run of words, five to a stage, and which runs are admitted. Document 01, "Plan".
use Rattle.std.specs.Prelude.{ℕ, ◌+◌, ◌*◌, ◌<◌, ◌≡◌, ◌⊎◌, Bool, true, cond, ◌&&◌, List, [], ◌∷◌, length, get_or, leb, ltb, eqb}
use Rattle.plan.specs.declared.stage.Stage.{Stage}

-- the first stage of a run of five words or more
unfoldable pub first : List ℕ → Stage
first w = record { size = get_or w 0 0; accept1 = get_or w 1 0; reject1 = get_or w 2 0; accept2 = get_or w 3 0; reject2 = get_or w 4 0 }

-- the stages of a run of words; a last stage that lacks words is none
unfoldable pub stages : List ℕ → List Stage
stages (n ∷ a1 ∷ r1 ∷ a2 ∷ r2 ∷ rest) = record { size = n; accept1 = a1; reject1 = r1; accept2 = a2; reject2 = r2 } ∷ stages rest
stages [] = []
stages (a ∷ []) = []
stages (a ∷ b ∷ []) = []
stages (a ∷ b ∷ c ∷ []) = []
stages (a ∷ b ∷ c ∷ d ∷ []) = []

-- s is the first stage of a run of words, and `rest` are the words after it
pub record FirstAndRest (w : List ℕ) (s : Stage) (rest : List ℕ) : Type 0 where
  pub stages_are : stages w ≡ s ∷ stages rest
  pub fewer : length rest < length w

-- S: the units of all stages
unfoldable pub total : List Stage → ℕ
total [] = 0
total (s ∷ rest) = s.size + total rest

-- e is S1, S2, .. or Sk, where the stages come after `before` units
unfoldable pub End : ℕ → List Stage → ℕ → Type 0
End before [] e = ⊥
End before (s ∷ rest) e = (e ≡ before + s.size) ⊎ End (before + s.size) rest e

-- the last of them below y, or `before` where there is none
unfoldable pub end_below : ℕ → List Stage → ℕ → ℕ
end_below before [] y = before
end_below before (s ∷ rest) y = cond (ltb (before + s.size) y) (end_below (before + s.size) rest y) before

-- the first of them from y on, or the last where there is none
unfoldable pub end_from : ℕ → List Stage → ℕ → ℕ
end_from before [] y = before
end_from before (s ∷ rest) y = cond (ltb (before + s.size) y) (end_from (before + s.size) rest y) (before + s.size)

-- ---- stages at which acceptance is not permitted. Document 02, change 1

-- as both acceptance numbers of a stage: acceptance is not permitted there
abbrev pub not_permitted : ℕ
not_permitted = 4294967295

unfoldable pub marked : Stage → Bool
marked s = eqb s.accept1 not_permitted && eqb s.accept2 not_permitted

-- the marked stages ahead of the first stage with acceptance numbers
unfoldable pub ahead : List Stage → List Stage
ahead [] = []
ahead (s ∷ rest) = cond (marked s) (s ∷ ahead rest) []

-- the stages from that one on
unfoldable pub numbered : List Stage → List Stage
numbered [] = []
numbered (s ∷ rest) = cond (marked s) (numbered rest) (s ∷ rest)

-- ---- the rules. A row of numbers is a function of the stage

unfoldable pub each : (Stage → Bool) → List Stage → Bool
each test [] = true
each test (s ∷ rest) = test s && each test rest

unfoldable pub never_falls : (Stage → ℕ) → List Stage → Bool
never_falls row [] = true
never_falls row (s ∷ []) = true
never_falls row (s ∷ t ∷ rest) = leb (row s) (row t) && never_falls row (t ∷ rest)

-- one stage has no step
unfoldable pub last_step_rises : (Stage → ℕ) → List Stage → Bool
last_step_rises row [] = true
last_step_rises row (s ∷ []) = true
last_step_rises row (s ∷ t ∷ []) = ltb (row s) (row t)
last_step_rises row (s ∷ t ∷ u ∷ rest) = last_step_rises row (t ∷ u ∷ rest)

-- a + 1 < r before the last stage, a + 1 = r at the last
unfoldable pub apart : (Stage → ℕ) → (Stage → ℕ) → List Stage → Bool
apart a r [] = true
apart a r (s ∷ []) = eqb (a s + 1) (r s)
apart a r (s ∷ t ∷ rest) = ltb (a s + 1) (r s) && apart a r (t ∷ rest)

-- a < Si at each stage, where the stages come after `before` units
unfoldable pub below_ends : (Stage → ℕ) → ℕ → List Stage → Bool
below_ends a before [] = true
below_ends a before (s ∷ rest) = ltb (a s) (before + s.size) && below_ends a (before + s.size) rest

unfoldable pub last : (Stage → ℕ) → List Stage → ℕ
last row [] = 0
last row (s ∷ []) = row s
last row (s ∷ t ∷ rest) = last row (t ∷ rest)

unfoldable pub last_reject1 : List Stage → ℕ
last_reject1 = last (λ (s : Stage). s.reject1)

unfoldable pub last_reject2 : List Stage → ℕ
last_reject2 = last (λ (s : Stage). s.reject2)

-- the rules on one row of acceptance numbers a and rejection numbers r
unfoldable pub row_rules : (Stage → ℕ) → (Stage → ℕ) → ℕ → List Stage → Bool
row_rules a r before p =
    never_falls a p &&
    last_step_rises a p &&
    never_falls r p &&
    apart a r p &&
    below_ends a before p &&
    leb (last r p) (before + total p)

-- the rules on stages with acceptance numbers, which come after `before` units
unfoldable pub numbered_rules : ℕ → List Stage → Bool
numbered_rules before p =
    each (λ s. leb 1 s.size) p &&
    leb (before + total p) 1000 &&
    leb (last_reject1 p) 60 &&
    row_rules (λ s. s.accept1) (λ s. s.reject1) before p &&
    row_rules (λ s. s.accept2) (λ s. s.reject2) before p &&
    each (λ s. leb s.accept2 s.accept1) p &&
    each (λ s. leb s.reject2 s.reject1) p

-- the rules on a marked stage
unfoldable pub marked_rules : Stage → Bool
marked_rules s = leb 1 s.size && leb 1 s.reject1 && leb 1 s.reject2 && leb s.reject2 s.reject1

-- the rules on stages that come after `before` units. The last stage is not marked, and a marked one after a stage with acceptance
-- numbers breaks `below_ends`
unfoldable pub rules : ℕ → List Stage → Bool
rules before p =
    each marked_rules (ahead p) &&
    never_falls (λ s. s.reject1) p &&
    never_falls (λ s. s.reject2) p &&
    leb 1 (length (numbered p)) &&
    numbered_rules (before + total (ahead p)) (numbered p)

-- a run of words is admitted: 1 to 7 whole stages, and the rules
unfoldable pub admitted : List ℕ → Bool
admitted w =
    eqb (length w) (5 * length (stages w)) &&
    leb 1 (length (stages w)) &&
    leb (length (stages w)) 7 &&
    rules 0 (stages w)
