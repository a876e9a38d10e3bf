-- The entry of a request type in a manifest's words.
use Rattle.std.specs.Prelude.{ℕ, ◌+◌, ◌≤◌, ◌≡◌, List, length, take, drop, get_or}
use Rattle.std.proofs.Math.Option.{Option, none, some}
use Rattle.rules.specs.LoadCalls.{Entry}
use Rattle.rows.specs.Words.{depth_in, step_in}
use Rattle.rows.specs.States.{rows_of}
use Rattle.entries.specs.declared.entry.EntryPlace.{EntryPlace}
use Rattle.std.specs.Prelude.{Option as Maybe, Some, None}

-- an entry that stands at a place of words
pub record EntryAt (words : List ℕ) (request : ℕ) (entry : Entry) (place : EntryPlace) : Type 0 where
  pub number : entry.first ≡ place.first
  pub own_depth : depth_in (get_or words place.at 0) ≡ 0
  pub own_step : step_in (get_or words place.at 0) ≡ request
  pub rows : entry.nodes ≡ rows_of (take place.nodes (drop (place.at + 1) words))
  pub within : place.at + 1 + place.nodes ≤ length words

-- the entry where it stands, or none
abbrev pub FoundAs : List ℕ → ℕ → Option Entry → Maybe EntryPlace → Type 0
FoundAs words request none r = r ≡ None
FoundAs words request (some entry) r = (place : EntryPlace) × (r ≡ Some place) × EntryAt words request entry place
