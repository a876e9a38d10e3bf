-- The bytes of a run before the first byte b: what a scan passes over.
use Rattle.std.specs.Prelude.{ℕ, cond, List, [], ◌∷◌, eqb}

unfoldable pub before : ℕ → List ℕ → List ℕ
before b [] = []
before b (x ∷ xs) = cond (eqb x b) [] (x ∷ before b xs)
