-- A float that stands for a fraction of a power of two.
-- A finite float is `fin s m e`: the number m * 2 ^ e, negative where s is true; 2 ^ e is the fraction `up e / down e` (lib.Ieee).
use Rattle.std.specs.Prelude.{◌≡◌, false, ℕ, ◌*◌, ◌^◌, pos, Float}
use Rattle.std.specs.Float.{nan, inf, fin, binary64}
use Rattle.std.specs.Float.Ieee.{up, down, div, of_int}

-- the float 2 ^ k
abbrev pub power : ℕ → Float
power k = fin false 1 (pos k)

-- the float that dividing the float x by another gives
abbrev pub divided : ℕ → Float → Float
divided x one = div binary64 (of_int binary64 (pos x)) one

-- and by the float 2 ^ k
abbrev pub quotient : ℕ → ℕ → Float
quotient x k = divided x (power k)

-- the float's value is x / 2 ^ k, no more and no less: it is no NaN and no infinity, it has no minus sign, and
-- m * up e / down e = x / 2 ^ k, multiplied out
unfoldable pub Exactly : Float → ℕ → ℕ → Type 0
Exactly nan x k = ⊥
Exactly (inf s) x k = ⊥
Exactly (fin s m e) x k = (s ≡ false) × (m * up e * 2 ^ k ≡ x * down e)
