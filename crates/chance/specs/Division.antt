-- Division by multiplication with a reciprocal: what the contracts of the inner functions cite.
use Rattle.std.specs.Prelude.{ℕ, ◌+◌, ◌*◌, ◌^◌, ◌≤◌, ◌<◌}

-- the inverse of a divisor that is scaled is 2^83 / (by * scale) at least, and 1 more at most
pub record Exact (by scale inverse : ℕ) : Type 0 where
  pub some : 0 < by * scale
  pub few : by * scale ≤ 2 ^ 20
  pub above : 2 ^ 83 ≤ inverse * (by * scale)
  pub below : inverse * (by * scale) ≤ 2 ^ 83 + by * scale
