-- What each operation of `manifest` answers, and what the lent buffer then holds.
use Rattle.std.specs.Prelude.{ℕ, ◌≡◌, true, cond, ◌&&◌, List, [], leb, length}
use Rattle.rules.specs.Numbers.{Answer}
use Rattle.rules.specs.Tries.{Row, manifest, union_within}
use Rattle.words.specs.Runs.{Outcome, refusing}
use Rattle.rows.specs.States.{form_of, words_of, rows_in, lawful_state, holding, storing}
use Rattle.rows.specs.declared.Kind.{Kind}
use Rattle.rows.specs.declared.Kind.TheVariants.{Contribution, Manifest}
use Rattle.words.specs.Replies.{Done}

-- an empty manifest
unfoldable pub empty_in : List ℕ → Outcome
empty_in out = cond (leb 4161 (length out)) (record { reply = Done; buffer = holding out [] }) (refusing 31 0 out)

-- a state that is a lawful contribution or a lawful manifest
abbrev pub LawfulOfSomeKind : List ℕ → Type 0
LawfulOfSomeKind state = (kind : Kind) × (lawful_state (form_of kind) state ≡ true)

-- the union of two states' rows, within the limits of a manifest
abbrev pub united_rows : List ℕ → List ℕ → Answer (List Row)
united_rows m other = union_within manifest (rows_in m) (rows_in other)

-- uniting a manifest in place with a state of a kind: 31, then 1 at 0, then 5 and 4 on the union; a refusal leaves the manifest
unfoldable pub united_in : Kind → List ℕ → List ℕ → Outcome
united_in kind m other =
    cond (leb 4161 (length m) && leb (words_of kind) (length other))
    (cond (lawful_state manifest m && lawful_state (form_of kind) other) (storing m (united_rows m other)) (refusing 1 0 m))
    (refusing 31 0 m)

-- adding a contribution
abbrev pub add_in : List ℕ → List ℕ → Outcome
add_in m c = united_in Contribution m c

-- uniting with another manifest
abbrev pub unite_in : List ℕ → List ℕ → Outcome
unite_in m other = united_in Manifest m other
