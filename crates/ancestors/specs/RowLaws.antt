-- Laws of taking a row. No contract cites this file.
use Rattle.std.specs.Prelude.{ℕ, ◌≤◌, ◌<◌, ◌≡◌, Bool, true, false, length, take, get_or}
use Rattle.std.specs.Prelude.{Option as Maybe, Some, None, Result, Ok, Err}
use denote.Ref.{Bor}
use Rattle.std.proofs.Common.{ap, ◌∙◌, drop_of_length-le}
use mathlib.Core.List.{List, [], ◌∷◌, map, append-nil}
use Rattle.std.proofs.Math.Option.{Option, none, some}
use Rattle.rules.specs.Facts.{by_option}
use Rattle.rules.specs.Tries.{Row}
use Rattle.rules.specs.Values.{Entity}
use Rattle.rules.specs.Loading.{LoadAnswer, done, ◌then◌, EntityRequest, Event, remaining_entities, Loaded, loaded_as, Wanted, is_marked, take_events, take_row}
use Rattle.rules.specs.Trips.{found_in, row_finds}
use Rattle.rules.specs.WalkRows.{remaining_rows}
use Rattle.rules.proofs.WalkRowLaws.{remaining-rows}
use Rattle.rows.specs.Words.{row_in, mark_in}
use Rattle.rows.specs.States.{rows_of}
use Rattle.values.specs.ValueWords.{value_rows_of}
use Rattle.row_walk.specs.ScanLaws.{rows_left}
use Rattle.row_walk.specs.Batches.{yields}
use Rattle.row_walk.specs.BatchLaws.{drop-map}
use Rattle.ancestors.specs.Sets.{ids_of, IsSet, IsPut}
use Rattle.ancestors.specs.SliceWords.{FoundAs}
use Rattle.slices.specs.Slices.{rows_asked}
use Rattle.ancestors.specs.Takings.{wanted_in, put_at, take_mark, IsSetIn, Puts, Takes}
use Rattle.ancestors.specs.TakingLaws.{take_put, found_yields}
use Rattle.ancestors.specs.declared.set.AncestorSet.{AncestorSet}
use Rattle.ancestors.specs.declared.events.Taken.{Taken}

-- ---- the mark

abbrev mark_of : List Row → Bool
mark_of rest = elim rest [ [] ↦ false | row ∷ rows ↦ row.mark ]

module _ (nodes : List ℕ) (node : ℕ) where
  pub mark_there : node < length nodes → is_marked (rows_of nodes) node ≡ mark_in (get_or nodes node 0)
  mark_there h = ap mark_of (drop-map row_in node nodes ∙ rows_left row_in nodes node h)

  pub mark_past : length nodes ≤ node → is_marked (rows_of nodes) node ≡ false
  mark_past h = ap mark_of (drop-map row_in node nodes ∙ ap (map row_in) (drop_of_length-le nodes h))

put_is_set : {id : ℕ} {ids : List ℕ} (r : Maybe AncestorSet) → IsPut id ids r → IsSetIn r
put_is_set (Some more) put = put.put.is_set
put_is_set None put = tt

module _ (nodes : List Row) (node : ℕ) (set : AncestorSet) (id : ℕ) where
  pub puts_mark : {r : Maybe AncestorSet} → is_marked nodes node ≡ true → IsPut id (ids_of set) r → Puts (λ place. take_mark nodes place node id) set r
  puts_mark {r} e put = record { is_set = put_is_set r put; puts = λ place next. rw e (take_put place next put) }

  pub puts_none : is_marked nodes node ≡ false → IsSet set → Puts (λ place. take_mark nodes place node id) set (Some set)
  puts_none e is = record { is_set = is; puts = λ place next. rw e }

-- ---- the row

module _ (nodes : List Row) (slice : List Loaded) (row : EntityRequest) where
  -- what its children take, where its entity is loaded
  abbrev children : ℕ → Option Entity → Wanted → LoadAnswer Wanted
  children place o more = elim o [ none ↦ done more | some value ↦ take_events place (remaining_entities nodes row.node value.attributes) more ]

  module _ (values : Bor (List ℕ)) (found : FoundAs (loaded_as row.id slice) (Some values)) where
    abbrev events : List Event
    events = remaining_rows nodes row.node (value_rows_of values.now)

    loaded_there : (value : Entity) × (loaded_as row.id slice ≡ some value) × FoundAs (some value) (Some values)
    loaded_there = by_option (loaded_as row.id slice) (λ e. absurd (rw e at found)) (λ value e. (value, e, rw e at found))

    events_there : (value : Entity) → FoundAs (some value) (Some values) → remaining_entities nodes row.node value.attributes ≡ events
    events_there value there = rw there (remaining-rows nodes row.node (value_rows_of values.now))

    -- its children find as many as they meet
    pub row_room : length (row_finds nodes slice (row ∷ [])) ≡ yields events
    unfolding row_finds
    row_room =
        let (value, is, there) = loaded_there in
        rw (is, append-nil (found_in (remaining_entities nodes row.node value.attributes)), events_there value there) (found_yields events)

  module _ (set : AncestorSet) (out : List ℕ) (at : ℕ) {put : Maybe AncestorSet} (mark : Puts (λ place. take_mark nodes place row.node row.id) set put) where
    abbrev whole : ℕ → LoadAnswer Wanted
    whole place = take_row nodes slice place row (wanted_in set out at)

    marked : (place : ℕ) → whole place ≡ put_at place (rows_asked (take at out)) put then children place (loaded_as row.id slice)
    marked place = ap (λ o. o then children place (loaded_as row.id slice)) (mark.puts place (rows_asked (take at out)))

    -- there is no place for its id
    pub row_full : put ≡ None → Takes whole out (Err 15)
    row_full e = record { answers = λ place. marked place ∙ rw e; taken = tt }

    module _ {more : AncestorSet} (fits : put ≡ Some more) where
      -- its entity is not loaded
      pub row_missing : FoundAs (loaded_as row.id slice) None → at ≤ length out → Takes whole out (Ok (record { set = more; end = at }))
      row_missing found room = record { answers = λ place. marked place ∙ rw fits (go place); taken = (rw fits at mark.is_set, room) }
        where
          go : (place : ℕ) → children place (loaded_as row.id slice) (wanted_in more out at) ≡ done (wanted_in more out at)
          go place = by_option (loaded_as row.id slice) (λ e. rw e) (λ value e. absurd (rw e at found))

      -- it is
      pub row_found :
          (values : Bor (List ℕ)) {out' : List ℕ} {r : Result Taken ℕ} (found : FoundAs (loaded_as row.id slice) (Some values))
          → Takes (λ place. take_events place (events values found) (wanted_in more out at)) out' r
          → Takes whole out' r
      row_found values found takes =
          let (value, is, there) = loaded_there values found in
          record { answers = λ place. marked place ∙ rw (fits, is, events_there values found value there) (takes.answers place); taken = takes.taken }
