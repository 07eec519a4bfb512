-- What a call replies, in document 01's terms: a refusal is its number and nothing more, and a granted call gives values. Where
-- the code's answer is an enum, a definition gives its reply case by case.
use Rattle.std.specs.Prelude.{ℕ, List}

pub data Reply : Type 0 where
  granted : List ℕ → Reply
  refused : ℕ → Reply
