-- The floats of a chart are no NaN, since each is a whole number divided by a power of two.
use Rattle.std.proofs.Common.{ℕ, subst}
use mathlib.Core.Bool.{not}
use lib.Dec.{T}
use lib.Ieee.{Float, nan, inf, fin, is_nan}
use Rattle.chance.specs.Fraction.{Exactly}
use Rattle.chance.specs.Reply.{ExactFloats}
use Rattle.vectors.proofs.chances.patterns.Goals as goal

-- a float that is a number
a_number : (r : Float) (x k : ℕ) → Exactly r x k → T (not (is_nan r))
unfolding Exactly is_nan
a_number nan x k h = absurd h
a_number (inf s) x k h = tt
a_number (fin s m e) x k h = tt

pub float_to_bits-result : goal.float_to_bits-result
float_to_bits-result c =
    let exact = c.requires in
    a_number c.in_ok-low.field-0.low _ _ (subst (ExactFloats exact.0 exact.1) c.in_ok-low.was exact.2).0

pub float_to_bits-result-2 : goal.float_to_bits-result-2
float_to_bits-result-2 c =
    let exact = c.requires in
    a_number c.in_ok-low.field-0.high _ _ (subst (ExactFloats exact.0 exact.1) c.in_ok-low.was exact.2).1
