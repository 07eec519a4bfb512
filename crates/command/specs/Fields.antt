-- A line's fields one after another. commandmodel's specs/Command.antt says what the fields are; that these are the same is proved in
-- proofs/OneField.antt.
use Rattle.std.specs.Prelude.{ℕ, zero, suc, ◌≡◌, cond, List, [], ◌∷◌, take, drop, eqb}
use Rattle.commandmodel.specs.Command.{space, fields}

-- how many bytes stand before the first byte `stop`, or in all if there is none
unfoldable pub until : ℕ → List ℕ → ℕ
until stop [] = zero
until stop (b ∷ bs) = cond (eqb b stop) zero (suc (until stop bs))

-- the fields after the byte that ends one; none at the end of the line
abbrev pub fields_after : List ℕ → List (List ℕ)
fields_after [] = []
fields_after (b ∷ bs) = fields bs

abbrev pub FirstField : Type 0
FirstField = (s : List ℕ) → fields s ≡ take (until space s) s ∷ fields_after (drop (until space s) s)
