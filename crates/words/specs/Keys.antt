-- A key in a run of words that ascend strictly by their keys (docs/FORMS.md, 'Words').
use Rattle.std.specs.Prelude.{ℕ, suc, ◌/◌, ◌^◌, cond, List, [], ◌∷◌, ltb, eqb}
use Rattle.std.specs.Prelude.{Result, Ok, Err}

abbrev pub key_in : ℕ → ℕ
key_in w = w / 2 ^ 40

abbrev pub later : Result ℕ ℕ → Result ℕ ℕ
later (Ok place) = Ok (suc place)
later (Err place) = Err (suc place)

-- found at its place, or missing at the place where it would stand
unfoldable pub searched : List ℕ → ℕ → Result ℕ ℕ
searched [] key = Err 0
searched (w ∷ ws) key = cond (eqb (key_in w) key) (Ok 0) (cond (ltb key (key_in w)) (Err 0) (later (searched ws key)))
