-- The parts of a store's words, for the contracts of `runs`.
use Rattle.std.specs.Prelude.{ℕ, suc, ◌/◌, ◌^◌, cond, List, [], ◌∷◌, ltb, eqb}
use Rattle.store_text.specs.declared.runs.Part.{Part}
use Rattle.store_text.specs.declared.runs.Part.TheVariants.{Own, Parents, Ancestors, Rows}

-- the parts by their numbers
abbrev pub part_number : Part → ℕ
part_number Own = 0
part_number Parents = 1
part_number Ancestors = 2
part_number Rows = 3

-- which part a word is of: 0 the entity's own, 1 its parents', 2 its ancestors', 3 the rows of its attributes
abbrev pub part_of : ℕ → ℕ
part_of word = cond (ltb (word / 2 ^ 16) 3) (word / 2 ^ 16) 3

-- how many words of one part there are at the start of some words
unfoldable pub run_of : ℕ → List ℕ → ℕ
run_of part [] = 0
run_of part (w ∷ ws) = let more : ℕ = suc (run_of part ws) in cond (eqb (part_of w) part) more 0
