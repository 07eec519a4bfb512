-- What is printed one after another, with a space between.
use Rattle.std.specs.Prelude.{ℕ, List, ◌∷◌, ◌++◌}

abbrev pub space : ℕ
space = 32

abbrev pub spaced : List ℕ → List ℕ → List ℕ
spaced first rest = first ++ (space ∷ rest)
