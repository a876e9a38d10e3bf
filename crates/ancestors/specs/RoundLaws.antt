-- Laws of the rounds of an ancestors walk. No contract cites this file.
use Prim.Native.Nat.{ℕ, zero, suc, ◌+◌, ◌-◌, ◌≤◌, ◌<◌}
use Rattle.std.proofs.Common.{add-one, ◌∙◌, length-append, drop_of_length-le, length-take-le}
use native.Mathlib.Omega.{arith}
use Rattle.std.specs.Prelude.{◌≡◌, take, drop, get_or}
use Rattle.std.proofs.Math.Path.{refl, ap}
use mathlib.Core.List.{List, [], ◌∷◌, ◌++◌, map, append-nil}
use Rattle.std.proofs.Math.Option.{none, some}
use Rattle.std.proofs.Math.ListN.{length}
use Rattle.std.proofs.lemmas.List.{length-map}
use Rattle.std.proofs.lemmas.List.Edits.{sets}
use Rattle.std.proofs.Math.Seq.{length-sets}
use Rattle.rules.specs.Numbers.{most_steps}
use Rattle.rules.specs.Tries.{Row}
use Rattle.rules.specs.Loading.{LoadAnswer, done, refused_at, counted, ◌then◌, Request, EntityRequest, Event, remaining_entities, initial_entities, Loaded, loaded_as, Wanted, take_events, take_row, take_rows, take_batches, ancestors_request}
use Rattle.rules.specs.Trips.{nodes_asked, found_in, row_finds}
use Rattle.rules.proofs.TripLaws.{take-events, take-rows, Waits, waits_first, waits_next, waits_few}
use Rattle.rows.specs.Words.{row_in, depth_in}
use Rattle.rows.specs.States.{rows_of}
use Rattle.words.specs.RunLaws.{taken_back}
use Rattle.values.specs.ValueWords.{row_asked}
use Rattle.row_walk.specs.ScanLaws.{rows_left}
use Rattle.row_walk.specs.Batches.{yields}
use Rattle.row_walk.specs.BatchLaws.{drop-map}
use Rattle.ancestors.specs.Sets.{ids_of, IsSet, Holds}
use Rattle.slices.specs.Slices.{rows_asked}
use Rattle.ancestors.specs.Takings.{wanted_in, Takes, Asks}
use Rattle.ancestors.specs.TakingLaws.{takes_same, takes_refused, takes_done, takes_set, takes_within, waits_length, found_yields}
use Rattle.ancestors.specs.declared.set.AncestorSet.{AncestorSet}
use Rattle.std.specs.Prelude.{Result, Ok, Err}
use Rattle.ancestors.specs.declared.events.Taken.{Taken}

-- ---- the rows of a round

module _ (nodes : List Row) (slice : List Loaded) where
  -- one row, and the others
  finds_more : (row : EntityRequest) (rows : List EntityRequest) →
      length (row_finds nodes slice (row ∷ rows)) ≡ length (row_finds nodes slice (row ∷ [])) + length (row_finds nodes slice rows)
  unfolding row_finds
  finds_more row rows = go (elim (loaded_as row.id slice) [ none ↦ [] | some value ↦ found_in (remaining_entities nodes row.node value.attributes) ])
    where
      go : (found : List ℕ) → length (found ++ row_finds nodes slice rows) ≡ length (found ++ []) + length (row_finds nodes slice rows)
      go found = rw append-nil (length-append found (row_finds nodes slice rows))

  -- rows that are taken leave one more for each that they find
  pub rows_end :
      (rows : List EntityRequest) (set : AncestorSet) (out : List ℕ) (at : ℕ) {out' : List ℕ} {r : Result Taken ℕ} {taken : Taken}
      → Takes (λ place. take_rows nodes slice place rows (wanted_in set out at)) out' r
      → r ≡ Ok taken
      → at ≤ length out
      → taken.end ≡ at + length (row_finds nodes slice rows)
  rows_end rows set out at {out'} {r} {taken} takes is room =
      omega (
        arith,
        ap length (take-rows nodes slice 0 rows (wanted_in set out at) (wanted_in taken.set out' taken.end) (takes_done takes is 0)),
        length-append (nodes_asked (rows_asked (take at out))) (row_finds nodes slice rows),
        length-map (rows_asked (take at out)) (λ row. row.node),
        length-map (rows_asked (take taken.end out')) (λ row. row.node),
        waits_length out at room,
        waits_length out' taken.end (takes_within takes is),
      )

  one_row : (place : ℕ) (row : EntityRequest) (wanted : Wanted) → take_rows nodes slice place (row ∷ []) wanted ≡ take_row nodes slice place row wanted
  unfolding take_rows
  one_row place row wanted = go (take_row nodes slice place row wanted)
    where
      go : (o : LoadAnswer Wanted) → o then take_rows nodes slice place [] ≡ o
      go (done more) = refl
      go (refused_at m n) = refl
      go (counted m n) = refl

  -- The rows up to a place are taken: the others say what the whole comes to, and there is room for what they find.
  pub record TakingRows (rows : List ℕ) (set₀ : AncestorSet) (out₀ : List ℕ) (set : AncestorSet) (out : List ℕ) (at i : ℕ) : Type 0 where
    pub is_set : IsSet set
    pub same : length out ≡ length out₀
    pub room : at + length (row_finds nodes slice (rows_asked (drop i rows))) ≤ length out
    pub sofar :
        (place : ℕ)
        → take_rows nodes slice place (rows_asked rows) (wanted_in set₀ out₀ 0)
        ≡ take_rows nodes slice place (rows_asked (drop i rows)) (wanted_in set out at)

  module _ {rows : List ℕ} {set₀ : AncestorSet} {out₀ : List ℕ} {more : AncestorSet} {out : List ℕ} {at i : ℕ}
      (sofar : TakingRows rows set₀ out₀ more out at i) where
    abbrev whole : ℕ → LoadAnswer Wanted
    whole place = take_rows nodes slice place (rows_asked rows) (wanted_in set₀ out₀ 0)

    -- no row is left
    pub rows_last : length rows ≤ i → Takes whole out (Ok (record { set = more; end = at }))
    unfolding take_rows
    rows_last h = record {
      answers = λ place. sofar.sofar place ∙ rw (drop_of_length-le rows h);
      taken = (sofar.is_set, omega (arith, sofar.room));
    }

    module _ (inside : i < length rows) where
      abbrev row : EntityRequest
      row = row_asked (get_or rows i 0)

      left_room : at + (length (row_finds nodes slice (row ∷ [])) + length (row_finds nodes slice (rows_asked (drop (i + 1) rows)))) ≤ length out
      left_room = rw (rows_left row_asked rows i inside, finds_more row (rows_asked (drop (i + 1) rows))) at sofar.room

      -- there is room for what the next finds
      pub rows_room : at + length (row_finds nodes slice (row ∷ [])) ≤ length out
      rows_room = omega (arith, left_room)

      both : (place : ℕ) → whole place
          ≡ take_row nodes slice place row (wanted_in more out at) then take_rows nodes slice place (rows_asked (drop (i + 1) rows))
      unfolding take_rows
      both place = sofar.sofar place ∙ rw (rows_left row_asked rows i inside)

      module _ {out' : List ℕ} {r : Result Taken ℕ} (takes : Takes (λ place. take_row nodes slice place row (wanted_in more out at)) out' r) where
        -- it is refused
        pub rows_refused : {number : ℕ} → r ≡ Err number → Takes whole out' (Err number)
        rows_refused is = takes_same both (takes_refused takes (λ place. take_rows nodes slice place (rows_asked (drop (i + 1) rows))) is)

        -- it is taken
        pub rows_next : {taken : Taken} → r ≡ Ok taken → length out' ≡ length out → TakingRows rows set₀ out₀ taken.set out' taken.end (i + 1)
        rows_next {taken} is same =
            let one : Takes (λ place. take_rows nodes slice place (row ∷ []) (wanted_in more out at)) out' r =
            takes_same (λ place. one_row place row (wanted_in more out at)) takes in
            let ends = rows_end (row ∷ []) more out at one is (omega (arith, left_room)) in
            record {
              is_set = takes_set takes is;
              same = same ∙ sofar.same;
              room = omega (arith, left_room, ends, same);
              sofar = λ place.
                  both place ∙ ap (λ o. o then take_rows nodes slice place (rows_asked (drop (i + 1) rows))) (takes_done takes is place);
            }

-- ---- round after round

-- where no row waits, no round changes anything
pub none_wait : (nodes : List Row) (slice : List Loaded) (left place : ℕ) (found : List ℕ) →
    take_batches left nodes slice place (record { ids = found; next = [] }) ≡ done found
unfolding take_batches take_rows
none_wait nodes slice zero place found = refl
none_wait nodes slice (suc left) place found = none_wait nodes slice left place found

module _ (nodes : List ℕ) (slice : List Loaded) where
  -- Some rounds are over: those that are left say what the whole comes to, and the rows that wait are few.
  pub record Rounds (set₀ : AncestorSet) (rows₀ : List ℕ) (count : ℕ) (found₀ rows found : List ℕ) (set : AncestorSet) (len left : ℕ) : Type 0 where
    pub is_set : IsSet set
    pub same_rows : length rows ≡ length rows₀
    pub same_found : length found ≡ length found₀
    pub rows_room : length nodes ≤ length rows
    pub found_room : length nodes ≤ length found
    pub within : len ≤ length rows
    pub waits : Waits (rows_of nodes) (nodes_asked (rows_asked (take len rows)))
    pub sofar :
        (place : ℕ)
        → take_batches most_steps (rows_of nodes) slice place (wanted_in set₀ rows₀ count)
        ≡ take_batches left (rows_of nodes) slice place (wanted_in set rows len)

  module _ {set₀ : AncestorSet} {rows₀ : List ℕ} {count : ℕ} {found₀ rows found : List ℕ} {more : AncestorSet} {len left : ℕ}
      (rounds : Rounds set₀ rows₀ count found₀ rows found more len left) where
    abbrev all_rounds : ℕ → LoadAnswer (List ℕ)
    all_rounds place = take_batches most_steps (rows_of nodes) slice place (wanted_in set₀ rows₀ count)

    -- no round is left
    pub rounds_over : left ≡ 0 → Asks all_rounds (Ok more)
    unfolding take_batches
    rounds_over e = record { asks = λ place. rounds.sofar place ∙ rw e; asked = rounds.is_set }

    -- no row waits
    pub rounds_ended : len ≡ 0 → Asks all_rounds (Ok more)
    rounds_ended e = record { asks = λ place. rounds.sofar place ∙ rw e (none_wait (rows_of nodes) slice left place (ids_of more)); asked = rounds.is_set }

    -- what the rows that wait find
    finds : Waits (rows_of nodes) (row_finds (rows_of nodes) slice (rows_asked (take len rows)))
    finds = waits_next (rows_of nodes) slice (rows_asked (take len rows)) rounds.waits

    pub rounds_few : length (row_finds (rows_of nodes) slice (rows_asked (take len rows))) ≤ length nodes
    rounds_few = omega (arith, waits_few (rows_of nodes) finds, length-map nodes row_in)

    module _ (more_left : 0 < left) {found' : List ℕ} {r : Result Taken ℕ}
        (takes : Takes (λ place. take_rows (rows_of nodes) slice place (rows_asked (take len rows)) (wanted_in more found 0)) found' r) where
      next_round : (place : ℕ) → all_rounds place
          ≡ take_rows (rows_of nodes) slice place (rows_asked (take len rows)) (wanted_in more found 0) then take_batches (left - 1) (rows_of nodes) slice place
      unfolding take_batches
      next_round place =
          let e : left ≡ suc (left - 1) = omega arith in
          rounds.sofar place ∙ ap (λ n. take_batches n (rows_of nodes) slice place (wanted_in more rows len)) e

      -- a row is refused
      pub rounds_refused : {number : ℕ} → r ≡ Err number → Asks all_rounds (Err number)
      rounds_refused {number} is = record {
        asks = λ place.
            let e : take_rows (rows_of nodes) slice place (rows_asked (take len rows)) (wanted_in more found 0) ≡ refused_at number place =
            takes.answers place ∙ rw is in
            next_round place ∙ rw e;
        asked = tt;
      }

      module _ {taken : Taken} (is : r ≡ Ok taken) where
        -- so many rows wait then
        pub round_end : (taken.end ≤ length nodes) × (taken.end ≤ length found')
        round_end = (
          omega (arith, rounds_few, rows_end (rows_of nodes) slice (rows_asked (take len rows)) more found 0 takes is (omega arith)),
          takes_within takes is,
        )

        -- they are those of the next round
        pub rounds_next : {rows' : List ℕ} → length found' ≡ length found → rows' ≡ sets rows 0 (take taken.end found') →
            Rounds set₀ rows₀ count found₀ rows' found' taken.set taken.end (left - 1)
        rounds_next {rows'} same copied =
            let (few, inside) = round_end in
            let many : length (take taken.end found') ≡ taken.end = length-take-le taken.end found' inside in
            let back : take taken.end rows' ≡ take taken.end found' =
            rw copied (rw many at (taken_back rows (take taken.end found') (omega (arith, many, rounds.rows_room)))) in
            let long : length rows' ≡ length rows = rw copied (length-sets rows 0 (take taken.end found')) in
            let nodes_found : nodes_asked (rows_asked (take taken.end found')) ≡ row_finds (rows_of nodes) slice (rows_asked (take len rows)) =
            take-rows (rows_of nodes) slice 0 (rows_asked (take len rows)) (wanted_in more found 0) (wanted_in taken.set found' taken.end) (takes_done takes is 0) in
            record {
              is_set = takes_set takes is;
              same_rows = long ∙ rounds.same_rows;
              same_found = same ∙ rounds.same_found;
              rows_room = omega (arith, long, rounds.rows_room);
              found_room = omega (arith, same, rounds.found_room);
              within = omega (arith, long, few, rounds.rows_room);
              waits = rw (back, nodes_found) finds;
              sofar = λ place.
                  next_round place
                  ∙ ap (λ o. o then take_batches (left - 1) (rows_of nodes) slice place) (takes_done takes is place)
                  ∙ rw back;
            }

-- ---- a request

-- what is met first behind a node, and then the rounds
abbrev walked : Request → List Row → List Loaded → ℕ → ℕ → List Row → LoadAnswer (List ℕ)
walked request nodes slice place node rest = elim rest [
  | [] ↦ done []
  | own ∷ rows ↦
      take_events place (initial_entities request own.depth (suc node) rows) (record { ids = []; next = [] })
      then
      take_batches most_steps nodes slice place
]

module _ (nodes : List ℕ) (slice : List Loaded) (request : Request) (row : EntityRequest) (set : AncestorSet) (empty : Holds set []) where
  abbrev asked : ℕ → LoadAnswer (List ℕ)
  asked place = ancestors_request request (rows_of nodes) slice place row

  -- past the last node nothing is asked for
  pub request_past : length nodes ≤ row.node → Asks asked (Ok set)
  request_past h = record {
    asks = λ place.
        ap (walked request (rows_of nodes) slice place row.node) (drop-map row_in row.node nodes ∙ ap (map row_in) (drop_of_length-le nodes h))
        ∙ rw empty.holds;
    asked = empty.is_set;
  }

  module _ (inside : row.node < length nodes) (depth : ℕ) (is-depth : depth ≡ depth_in (get_or nodes row.node 0)) where
    abbrev first : List Event
    first = initial_entities request depth (row.node + 1) (rows_of (drop (row.node + 1) nodes))

    first_waits : Waits (rows_of nodes) (found_in first)
    first_waits =
        rw (drop-map row_in (row.node + 1) nodes) at
        (waits_first (rows_of nodes) request depth (row.node + 1) (omega (arith, length-map nodes row_in)))

    -- there is room for the first
    pub first_few : yields first ≤ length nodes
    first_few = omega (arith, waits_few (rows_of nodes) first_waits, found_yields first, length-map nodes row_in)

    module _ (out : List ℕ) {out' : List ℕ} {r : Result Taken ℕ} (takes : Takes (λ place. take_events place first (wanted_in set out 0)) out' r) where
      first_then : (place : ℕ) → asked place ≡ take_events place first (wanted_in set out 0) then take_batches most_steps (rows_of nodes) slice place
      first_then place =
          ap (walked request (rows_of nodes) slice place row.node) (drop-map row_in row.node nodes ∙ rows_left row_in nodes row.node inside)
          ∙ rw (is-depth, add-one row.node, empty.holds)

      pub request_refused : {number : ℕ} → r ≡ Err number → Asks asked (Err number)
      request_refused {number} is = record {
        asks = λ place.
            let e : take_events place first (wanted_in set out 0) ≡ refused_at number place = takes.answers place ∙ rw is in
            first_then place ∙ rw e;
        asked = tt;
      }

      module _ {taken : Taken} (is : r ≡ Ok taken) where
        -- the rows that wait then are few
        pub request_waits : Waits (rows_of nodes) (nodes_asked (rows_asked (take taken.end out')))
        request_waits = rw (take-events 0 first (wanted_in set out 0) (wanted_in taken.set out' taken.end) (takes_done takes is 0)) first_waits

        pub request_then :
            {r₂ : Result AncestorSet ℕ}
            → Asks (λ place. take_batches most_steps (rows_of nodes) slice place (wanted_in taken.set out' taken.end)) r₂
            → Asks asked r₂
        request_then rounds = record {
          asks = λ place. first_then place ∙ ap (λ o. o then take_batches most_steps (rows_of nodes) slice place) (takes_done takes is place) ∙ rounds.asks place;
          asked = rounds.asked;
        }
