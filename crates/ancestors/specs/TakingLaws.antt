-- Laws of taking events. No contract cites this file.
use Rattle.std.specs.Prelude.{ℕ, suc, ◌+◌, ◌*◌, ◌≤◌, ◌<◌, ◌≡◌, refl, List, [], ◌∷◌, ◌++◌, length, take, drop, get_or, set}
use Rattle.std.specs.Prelude.{Option as Maybe, Some, None, Result, Ok, Err, ok_or}
use Rattle.std.specs.Result.{result_ok}
use Rattle.std.proofs.Common.{add-one, arith, ap, ◌∙◌, length-append, drop_of_length-le, take-suc-set, length-take-le}
use Rattle.std.proofs.lemmas.List.{map-append, length-map}
use Rattle.std.proofs.Math.Option.{some}
use Rattle.std.proofs.Math.ListN.{length-set}
use borrow.Author.Tests.{lt-ltb, le-ltb, eq-eqb, ne_eqb}
use Rattle.rules.specs.Tries.{ids}
use Rattle.rules.specs.ValueRows.{ValueRow}
use Rattle.rules.specs.Loading.{LoadAnswer, done, refused_at, counted, ◌then◌, EntityRequest, Event, yielded, ancestor, bad, with_id, Wanted, take_id, take_events}
use Rattle.rules.specs.Trips.{nodes_asked, found_in}
use Rattle.rules.proofs.TripLaws.{take-events}
use Rattle.rules.specs.WalkRows.{walk_rows, remaining_rows}
use Rattle.rows.specs.States.{rows_of}
use Rattle.values.specs.ValueWords.{depth_from, number_from, value_row_in, value_rows_of, row_asked}
use Rattle.row_walk.specs.RowWalks.{ancestors_at}
use Rattle.row_walk.specs.ScanLaws.{rows_left}
use Rattle.row_walk.specs.Meetings.{going, met_then, MeetsAt}
use Rattle.row_walk.specs.Batches.{yields}
use Rattle.row_walk.specs.BatchLaws.{yields_ids, remaining_past}
use Rattle.values.specs.ValueWordLaws.{request_again}
use Rattle.row_walk.specs.declared.walk.Meeting.{Meeting}
use Rattle.row_walk.specs.declared.rule.Met.{Met}
use Rattle.row_walk.specs.declared.rule.Met.TheVariants.{Row as RowMet, Ids, Bad}
use Rattle.ancestors.specs.Sets.{ids_of, IsSet, Holds, PutAs, IsPut}
use Rattle.slices.specs.Slices.{rows_asked}
use Rattle.ancestors.specs.Takings.{wanted_in, put_at, Puts, Takes}
use Rattle.ancestors.specs.declared.set.AncestorSet.{AncestorSet}
use Rattle.ancestors.specs.declared.events.Taken.{Taken}

-- events after events
pub take-append : (place : ℕ) (a b : List Event) (wanted : Wanted) → take_events place (a ++ b) wanted ≡ take_events place a wanted then take_events place b
unfolding take_events
take-append place [] b wanted = refl
take-append place (yielded row ∷ a) b wanted = take-append place a b _
take-append place (ancestor e ∷ a) b wanted = go (take_id place e wanted) (take-append place a b)
  where
    go :
        (o : LoadAnswer Wanted)
        → ((more : Wanted) → take_events place (a ++ b) more ≡ take_events place a more then take_events place b)
        → o then take_events place (a ++ b) ≡ o then take_events place a then take_events place b
    go (done more) h = h more
    go (refused_at m n) h = refl
    go (counted m n) h = refl
take-append place (bad ∷ a) b wanted = refl

-- ---- ids

-- an id is put, or there is no place for it
pub take_put : (place : ℕ) {id : ℕ} {ids : List ℕ} {r : Maybe AncestorSet} (next : List EntityRequest) → IsPut id ids r →
    take_id place id (record { ids = ids; next = next }) ≡ put_at place next r
take_put place {id} {ids} {r} next put = go r put.put
  where
    go : (r : Maybe AncestorSet) → PutAs id ids r → take_id place id (record { ids = ids; next = next }) ≡ put_at place next r
    go (Some more) put =
        let many : length (ids_of more) ≡ more.len = length-take-le more.len more.ids (omega (arith, put.is_set.places, put.is_set.few)) in
        let few : length (with_id id ids) ≤ 256 = omega (arith, many, ap length put.holds, put.is_set.few) in
        rw (le-ltb 256 (length (with_id id ids)) few, put.holds)
    go None put = rw (lt-ltb 256 (length (with_id id ids)) put)

-- the set that `ok_or` hands on
pub was_put : {r : Maybe AncestorSet} {o : Result AncestorSet ℕ} {set : AncestorSet} → r ≡ result_ok o → o ≡ Ok set → r ≡ Some set
was_put e is = e ∙ rw is

-- where it refuses there was no place
pub not_put : {r : Maybe AncestorSet} {o : Result AncestorSet ℕ} {number : ℕ} → o ≡ ok_or r 15 → o ≡ Err number → (r ≡ None) × (number ≡ 15)
not_put {r} {o} {number} e is = go r e
  where
    go : (r : Maybe AncestorSet) → o ≡ ok_or r 15 → (r ≡ None) × (number ≡ 15)
    go (Some set) e = absurd (let z : ◌≡◌ {A = ℕ} 0 1 = cc in omega arith)
    go None e = (refl, cc)

-- The ids of the rows that are passed are put.
pub record Putting (set₀ : AncestorSet) (values : List ℕ) (from depth : ℕ) (set : AncestorSet) (i : ℕ) : Type 0 where
  pub is_set : IsSet set
  pub sofar :
      (place : ℕ) (next : List EntityRequest)
      → take_events place (ancestors_at depth (value_rows_of (drop from values))) (record { ids = ids_of set₀; next = next })
      ≡ take_events place (ancestors_at depth (value_rows_of (drop i values))) (record { ids = ids_of set; next = next })

module _ {set₀ : AncestorSet} {values : List ℕ} {from depth : ℕ} {set : AncestorSet} {i : ℕ} (putting : Putting set₀ values from depth set i) where
  abbrev all : ℕ → Wanted → LoadAnswer Wanted
  all place = take_events place (ancestors_at depth (value_rows_of (drop from values)))

  puts_none_left :
      ancestors_at depth (value_rows_of (drop i values)) ≡ []
      → Puts all set₀ (Some set)
  unfolding take_events
  puts_none_left e = record { is_set = putting.is_set; puts = λ place next. putting.sofar place next ∙ rw e }

  -- no row is left
  pub puts_last : length values ≤ i → Puts all set₀ (Some set)
  unfolding ancestors_at
  puts_last h = puts_none_left (rw (drop_of_length-le values h))

  module _ (more : i < length values) where
    -- the next row is above the elements
    pub puts_above : depth_from (get_or values i 0) < depth →
        Puts all set₀ (Some set)
    unfolding ancestors_at
    puts_above h = puts_none_left (rw (rows_left value_row_in values i more, lt-ltb (depth_from (get_or values i 0)) depth h))

    -- it is within one
    pub putting_deeper : depth ≤ depth_from (get_or values i 0) → (depth_from (get_or values i 0) ≡ depth → ⊥) → Putting set₀ values from depth set (i + 1)
    unfolding ancestors_at
    putting_deeper h other = record {
      is_set = putting.is_set;
      sofar = λ place next.
          putting.sofar place next
          ∙ rw (rows_left value_row_in values i more, le-ltb (depth_from (get_or values i 0)) depth h, ne_eqb (depth_from (get_or values i 0)) depth other);
    }

    -- it is one
    module _ (h : depth_from (get_or values i 0) ≡ depth) {r : Maybe AncestorSet} (put : IsPut (number_from (get_or values i 0)) (ids_of set) r) where
      put_next :
          (place : ℕ) (next : List EntityRequest)
          → take_events place (ancestors_at depth (value_rows_of (drop from values))) (record { ids = ids_of set₀; next = next })
          ≡ put_at place next r then take_events place (ancestors_at depth (value_rows_of (drop (i + 1) values)))
      unfolding ancestors_at take_events
      put_next place next =
          putting.sofar place next
          ∙ rw (
            rows_left value_row_in values i more,
            le-ltb (depth_from (get_or values i 0)) depth (omega arith),
            eq-eqb (depth_from (get_or values i 0)) depth h,
            take_put place next put,
          )

      pub puts_full : r ≡ None → Puts all set₀ None
      puts_full e = record { is_set = tt; puts = λ place next. put_next place next ∙ rw e }

      pub putting_more : {more : AncestorSet} → r ≡ Some more → Putting set₀ values from depth more (i + 1)
      putting_more {more} e =
          let held : Holds more (with_id (number_from (get_or values i 0)) (ids_of set)) = rw e at put.put in
          record { is_set = held.is_set; sofar = λ place next. put_next place next ∙ rw e }

-- ---- what a walk meets

-- a word behind the rows that wait is one more
pub waits_more : (out : List ℕ) (at e node : ℕ) → at < length out → e < ids →
    rows_asked (take (at + 1) (set out at (e + node * ids))) ≡ rows_asked (take at out) ++ (record { id = e; node = node } ∷ [])
waits_more out at e node room small =
    rw (add-one, take-suc-set out at (e + node * ids) room)
    (map-append row_asked (take at out) ((e + node * ids) ∷ [])
    ∙ rw (request_again (record { id = e; node = node }) small))

-- What is met so far is taken: the rest of what is met says what the whole comes to, and there is room for its rows.
pub record Taking
    (events : List Event) (set₀ : AncestorSet) (out₀ : List ℕ) (to : ℕ) (rest : List Event) (set : AncestorSet) (out : List ℕ) (at : ℕ)
    : Type 0 where
  pub is_set : IsSet set
  pub same : length out ≡ length out₀
  pub room : at + yields rest ≤ length out
  pub sofar : (place : ℕ) → take_events place events (wanted_in set₀ out₀ to) ≡ take_events place rest (wanted_in set out at)

pub taking_none :
    (events : List Event) (set : AncestorSet) (out : List ℕ) (to : ℕ)
    → IsSet set
    → to + yields events ≤ length out
    → Taking events set out to events set out to
taking_none events set out to is room = record { is_set = is; same = refl; room = room; sofar = λ place. refl }

module _ {events : List Event} {set₀ : AncestorSet} {out₀ : List ℕ} {to : ℕ} {more : AncestorSet} {out : List ℕ} {at : ℕ} where
  -- nothing more is met
  pub taken_all :
      Taking events set₀ out₀ to [] more out at
      → Takes (λ place. take_events place events (wanted_in set₀ out₀ to)) out (Ok (record { set = more; end = at }))
  unfolding take_events yields
  taken_all sofar = record { answers = sofar.sofar; taken = (sofar.is_set, omega (arith, sofar.room)) }

  -- 14 is met
  pub taken_bad :
      (rest : List Event)
      → Taking events set₀ out₀ to (bad ∷ rest) more out at
      → Takes (λ place. take_events place events (wanted_in set₀ out₀ to)) out (Err 14)
  unfolding take_events
  taken_bad rest sofar = record { answers = sofar.sofar; taken = tt }

  -- a row is found
  pub taking_room : (row : EntityRequest) (rest : List Event) → Taking events set₀ out₀ to (yielded row ∷ rest) more out at → at < length out
  unfolding yields
  taking_room row rest sofar = omega (arith, sofar.room)

  pub taking_row :
      (e node : ℕ) (rest : List Event)
      → e < ids
      → Taking events set₀ out₀ to (yielded (record { id = e; node = node }) ∷ rest) more out at
      → Taking events set₀ out₀ to rest more (set out at (e + node * ids)) (at + 1)
  unfolding take_events yields
  taking_row e node rest small sofar =
      let waits = waits_more out at e node (omega (arith, sofar.room)) small in
      record {
        is_set = sofar.is_set;
        same = length-set out at (e + node * ids) ∙ sofar.same;
        room = omega (arith, sofar.room, length-set out at (e + node * ids));
        sofar = λ place. sofar.sofar place ∙ rw (← waits);
      }

  -- ids are met
  module _ (depth : ℕ) (rows : List ValueRow) (rest : List Event) (sofar : Taking events set₀ out₀ to (ancestors_at depth rows ++ rest) more out at)
      {r : Maybe AncestorSet} (puts : Puts (λ place. take_events place (ancestors_at depth rows)) more r) where
    ids_met :
        (place : ℕ)
        → take_events place events (wanted_in set₀ out₀ to)
        ≡ put_at place (rows_asked (take at out)) r then take_events place rest
    ids_met place =
        sofar.sofar place
        ∙ take-append place (ancestors_at depth rows) rest (wanted_in more out at)
        ∙ ap (λ o. o then take_events place rest) (puts.puts place (rows_asked (take at out)))

    pub taken_full : r ≡ None → Takes (λ place. take_events place events (wanted_in set₀ out₀ to)) out (Err 15)
    taken_full e = record { answers = λ place. ids_met place ∙ rw e; taken = tt }

    pub taking_ids : {met : AncestorSet} → r ≡ Some met → Taking events set₀ out₀ to rest met out at
    taking_ids e = record {
      is_set = rw e at puts.is_set;
      same = sofar.same;
      room = rw (yields_ids depth rows rest) at sofar.room;
      sofar = λ place. ids_met place ∙ rw e;
    }

-- The walk over the words of nodes and values goes on from a row, with what is kept for each depth.
pub record TakingBelow
    (nodes values : List ℕ) (depth from : ℕ) (set₀ : AncestorSet) (out₀ : List ℕ) (to : ℕ)
    (out : List ℕ) (kept : List (Maybe ℕ)) (len : ℕ) (set : AncestorSet) (i at : ℕ) : Type 0 where
  pub within : i ≤ length nodes
  pub counts : len ≤ length kept
  pub depths : length kept ≡ 32
  pub taking :
      Taking (walk_rows depth (some (value_rows_of values) ∷ []) from (rows_of (drop from nodes))) set₀ out₀ to
      (going nodes values depth kept len i) set out at

module _ {nodes values : List ℕ} {depth from : ℕ} {set₀ : AncestorSet} {out₀ : List ℕ} {to : ℕ} {out : List ℕ} {kept : List (Maybe ℕ)} {len : ℕ}
    {more : AncestorSet} {i at : ℕ} (sofar : TakingBelow nodes values depth from set₀ out₀ to out kept len more i at) where
  abbrev whole : ℕ → LoadAnswer Wanted
  whole place = take_events place (walk_rows depth (some (value_rows_of values) ∷ []) from (rows_of (drop from nodes))) (wanted_in set₀ out₀ to)

  -- nothing more is met
  pub below_end : going nodes values depth kept len i ≡ [] → Takes whole out (Ok (record { set = more; end = at }))
  below_end e = taken_all (rw e at sofar.taking)

  module _ {kept' : List (Maybe ℕ)} {r : Meeting} (meets : MeetsAt nodes values depth kept len i kept' r) (same : length kept' ≡ length kept) where
    -- the next that is met, and the rest
    next : {met : Met} → r.met ≡ met →
        Taking (walk_rows depth (some (value_rows_of values) ∷ []) from (rows_of (drop from nodes))) set₀ out₀ to
        (met_then values r.node met (going nodes values depth kept' r.len (r.node + 1))) more out at
    next is = rw is at (rw meets.meets at sofar.taking)

    pub below_bad : r.met ≡ Bad → Takes whole out (Err 14)
    below_bad is = taken_bad _ (next is)

    -- a row is met at a node, its id is small, and there is room for it
    pub below_room : {e : ℕ} → r.met ≡ RowMet e → (r.node < length nodes) × (e < ids) × (at < length out)
    below_room {e} is =
        let small : e < ids = rw is at meets.small in
        (meets.inside, small, taking_room (record { id = e; node = r.node }) _ (next is))

    pub below_row : {e : ℕ} → r.met ≡ RowMet e →
        TakingBelow nodes values depth from set₀ out₀ to (set out at (e + r.node * ids)) kept' r.len more (r.node + 1) (at + 1)
    below_row {e} is =
        let (inside, small, room) = below_room is in
        record {
          within = omega arith;
          counts = meets.counts;
          depths = same ∙ sofar.depths;
          taking = taking_row e r.node _ small (next is);
        }

    module _ {p d : ℕ} (is : r.met ≡ Ids p d) {put : Maybe AncestorSet} (puts : Puts (λ place. take_events place (ancestors_at d (value_rows_of (drop p values)))) more put) where
      pub below_full : put ≡ None → Takes whole out (Err 15)
      below_full e = taken_full d (value_rows_of (drop p values)) _ (next is) puts e

      pub below_ids : {met : AncestorSet} → put ≡ Some met → TakingBelow nodes values depth from set₀ out₀ to out kept' r.len met (r.node + 1) at
      below_ids e =
          record {
            within = omega (arith, meets.inside);
            counts = meets.counts;
            depths = same ∙ sofar.depths;
            taking = taking_ids d (value_rows_of (drop p values)) _ (next is) puts e;
          }

-- ---- the children of a node

-- past the last node nothing is met
pub remaining_past_takes :
    (nodes : List ℕ) (node : ℕ) (run : List ValueRow) (set : AncestorSet) (out : List ℕ) (to : ℕ)
    → length nodes ≤ node
    → IsSet set
    → to ≤ length out
    → Takes (λ place. take_events place (remaining_rows (rows_of nodes) node run) (wanted_in set out to)) out (Ok (record { set = set; end = to }))
unfolding take_events
remaining_past_takes nodes node run set out to h is room = record { answers = λ place. rw (remaining_past nodes node run h); taken = (is, room) }

-- ---- one after the other

-- an answer that is another way to say it
pub takes_same : {f g : ℕ → LoadAnswer Wanted} {out : List ℕ} {r : Result Taken ℕ} → ((place : ℕ) → f place ≡ g place) → Takes g out r → Takes f out r
takes_same e t = record { answers = λ place. e place ∙ t.answers place; taken = t.taken }

module _ {f : ℕ → LoadAnswer Wanted} {out : List ℕ} {r : Result Taken ℕ} (first : Takes f out r) where
  -- what is refused is not gone on with
  pub takes_refused : {number : ℕ} (g : ℕ → Wanted → LoadAnswer Wanted) → r ≡ Err number → Takes (λ place. f place then g place) out (Err number)
  takes_refused {number} g is = record {
    answers = λ place. let e : f place ≡ refused_at number place = first.answers place ∙ rw is in rw e;
    taken = tt;
  }

  module _ {taken : Taken} (is : r ≡ Ok taken) where
    pub takes_set : IsSet taken.set
    takes_set = let there : IsSet taken.set × (taken.end ≤ length out) = rw is at first.taken in there.0

    pub takes_within : taken.end ≤ length out
    takes_within = let there : IsSet taken.set × (taken.end ≤ length out) = rw is at first.taken in there.1

    pub takes_done : (place : ℕ) → f place ≡ done (wanted_in taken.set out taken.end)
    takes_done place = first.answers place ∙ rw is

    -- what is done goes on from what is wanted then
    pub takes_then : {out₂ : List ℕ} {r₂ : Result Taken ℕ} (g : ℕ → Wanted → LoadAnswer Wanted) →
        Takes (λ place. g place (wanted_in taken.set out taken.end)) out₂ r₂ → Takes (λ place. f place then g place) out₂ r₂
    takes_then g second = record {
      answers = λ place. ap (λ o. o then g place) (takes_done place) ∙ second.answers place;
      taken = second.taken;
    }

pub found_yields : (events : List Event) → length (found_in events) ≡ yields events
unfolding found_in yields
found_yields [] = refl
found_yields (yielded row ∷ events) = ap suc (found_yields events)
found_yields (ancestor e ∷ events) = found_yields events
found_yields (bad ∷ events) = found_yields events

-- so many rows wait
pub waits_length : (out : List ℕ) (len : ℕ) → len ≤ length out → length (rows_asked (take len out)) ≡ len
waits_length out len h = length-map (take len out) row_asked ∙ length-take-le len out h

-- the place after the rows of events that are taken
pub takes_end : (events : List Event) (set : AncestorSet) (out : List ℕ) (to : ℕ) {out' : List ℕ} {r : Result Taken ℕ} {taken : Taken} →
    Takes (λ place. take_events place events (wanted_in set out to)) out' r → r ≡ Ok taken → to ≤ length out → taken.end ≡ to + yields events
takes_end events set out to {out'} {r} {taken} takes is room =
    let nodes = take-events 0 events (wanted_in set out to) (wanted_in taken.set out' taken.end) (takes_done takes is 0) in
    omega (
      arith,
      ap length nodes,
      length-append (nodes_asked (rows_asked (take to out))) (found_in events),
      length-map (rows_asked (take to out)) (λ row. row.node),
      length-map (rows_asked (take taken.end out')) (λ row. row.node),
      found_yields events,
      waits_length out to room,
      waits_length out' taken.end (takes_within takes is),
    )
