-- What a call from C gets of a reply: the number returned, and what stands in `out` afterwards.
use Rattle.std.specs.Prelude.{ℕ, List, Float}
use Rattle.plan.specs.Reply.{Reply, granted, refused}

-- 0 granted, else the refusal's number
abbrev pub number : Reply → ℕ
number (granted values) = 0
number (refused n) = n

-- the values of a granted call; a refusal leaves `out` alone
abbrev pub left : Reply → List ℕ → List ℕ
left (granted values) out = values
left (refused n) out = out

-- the same of a call whose values are floats, which a Reply does not hold
abbrev pub left_floats : Reply → List Float → List Float → List Float
left_floats (granted none) values out = values
left_floats (refused n) values out = out
