-- What the code tests of one row of a plan at one stage, which ends after `end` units, and of a marked stage.
-- Taken over the stages it says the same as the rules of Plan.antt (proofs/Rows.antt, proofs/Marked.antt).
use Rattle.std.specs.Prelude.{ℕ, ◌+◌, Bool, true, cond, ◌&&◌, leb, ltb, eqb}
use Rattle.plan.specs.declared.stage.Stage.{Stage}

-- a stage with one after it, whose numbers are a' and r' and which is the last or not
unfoldable pub row_step : (a r a' r' end : ℕ) → Bool → Bool
row_step a r a' r' end last = leb a a' && cond last (ltb a a') true && leb r r' && ltb (a + 1) r && ltb a end

-- the last stage
unfoldable pub row_end : (a r end : ℕ) → Bool
row_end a r end = eqb (a + 1) r && ltb a end && leb r end

-- both rows of a stage with one after it, and the rules between its rows
unfoldable pub stage_step : Stage → Stage → ℕ → Bool → Bool
stage_step s t end last =
    leb 1 s.size &&
    row_step s.accept1 s.reject1 t.accept1 t.reject1 end last &&
    row_step s.accept2 s.reject2 t.accept2 t.reject2 end last &&
    leb s.accept2 s.accept1 &&
    leb s.reject2 s.reject1

-- both rows of the last stage, and the rules between its rows
unfoldable pub last_step : Stage → ℕ → Bool
last_step s end =
    leb 1 s.size &&
    leb s.reject1 60 &&
    row_end s.accept1 s.reject1 end &&
    row_end s.accept2 s.reject2 end &&
    leb s.accept2 s.accept1 &&
    leb s.reject2 s.reject1

-- a marked stage with one after it, whose rejection numbers are r1' and r2'
unfoldable pub marked_step : (r1 r2 r1' r2' : ℕ) → Bool
marked_step r1 r2 r1' r2' = leb 1 r2 && leb r2 r1 && leb r1 r1' && leb r2 r2'
