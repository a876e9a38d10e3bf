-- What a load for a request type takes at most, by the words of a lent manifest.
use Rattle.std.specs.Prelude.{ℕ, ◌^◌, true, cond, ◌&&◌, List, [], ◌∷◌, ◌≡◌, leb, ltb, length}
use Rattle.rules.specs.Tries.{Row, manifest, ordered}
use Rattle.rules.specs.LoadCalls.{nodes_ahead}
use Rattle.rules.specs.Trips.{TripBound as RulesBound, trip_bound}
use Rattle.rows.specs.States.{lawful_state, rows_in, words_of}
use Rattle.rows.specs.declared.Kind.TheVariants.{Manifest}
use Rattle.entries.specs.declared.trips.TripBound.{TripBound}
use Rattle.words.specs.Replies.{Refused}
use Rattle.std.specs.Prelude.{Result, Ok}
use Rattle.words.specs.declared.Refusal.{Refusal}

-- rows that are the nodes of a request type's entry: in listing order behind its place, and no entry among them
pub record NodesOf (request : ℕ) (nodes : List Row) : Type 0 where
  pub in_order : ordered (request ∷ []) nodes ≡ true
  pub no_entry : nodes_ahead nodes ≡ nodes

-- a bound as the operation tells it
abbrev pub told : RulesBound → TripBound
told bound = record { rows = bound.rows; batches = bound.batches; ancestors = bound.ancestors }

-- 31, then 1 at 0 for the manifest or the request type, then the bound
unfoldable pub trip_bound_in : List ℕ → ℕ → Result TripBound Refusal
trip_bound_in lent request =
    cond (leb (words_of Manifest) (length lent))
    (cond (lawful_state manifest lent && ltb request (2 ^ 48)) (Ok (told (trip_bound (rows_in lent) request))) (Refused 1 0))
    (Refused 31 0)
