-- The first field of a line is what stands before the first space. Assumes nothing.
use Prim.Native.Nat.{zero, suc}
use mathlib.Core.Path.{◌≡◌, refl, ap}
use mathlib.Core.Bool.{Bool, true, false, cond}
use mathlib.Core.List.{[], ◌∷◌}
use lib.ListN.{take, drop}
use lib.Dec.{eqb}
use Rattle.std.specs.List.{onto_first}
use Rattle.commandmodel.specs.Command.{space, fields}
use Rattle.command.specs.Fields.{until, fields_after, FirstField}

pub first_field : FirstField
unfolding until
first_field [] = refl
first_field (b ∷ bs) = go (eqb b space) (first_field bs)
  where
    go : (t : Bool) → fields bs ≡ take (until space bs) bs ∷ fields_after (drop (until space bs) bs)
        → cond t ([] ∷ fields bs) (onto_first b (fields bs)) ≡ take (cond t zero (suc (until space bs))) (b ∷ bs) ∷ fields_after (drop (cond t zero (suc (until space bs))) (b ∷ bs))
    go true e = refl
    go false e = ap (onto_first b) e
