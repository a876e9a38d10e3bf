-- Laws of gathering a batch from what a walk meets. No contract cites this file.
use Rattle.std.specs.Prelude.{ℕ, zero, suc, ◌+◌, ◌*◌, ◌≤◌, ◌<◌, ◌≡◌, ltb, eqb, drop, get_or, set}
use Rattle.std.proofs.Common.{le_refl, add-one, arith, sym, ap, ◌∙◌, drop_of_length-le}
use Rattle.std.proofs.Math.Path.{refl}
use mathlib.Core.List.{List, [], ◌∷◌, ◌++◌, map, map-append, append_assoc, append-nil}
use Rattle.std.proofs.Math.Option.{Option, none, some}
use Rattle.std.proofs.Math.ListN.{length, take}
use Rattle.rules.specs.Tries.{Row, ids}
use Rattle.rules.specs.Facts.{by_test}
use Rattle.rules.specs.Listing.{◌>>=◌}
use Rattle.rules.specs.ValueRows.{ValueRow}
use Rattle.rules.specs.Loading.{EntityRequest, Event, yielded, bad, batch_of}
use Rattle.rules.specs.WalkRows.{walk_rows, remaining_rows}
use Rattle.rows.specs.Words.{row_in, depth_in}
use Rattle.rows.specs.States.{rows_of}
use Rattle.values.specs.ValueWords.{value_rows_of, request_word}
use Rattle.words.specs.Runs.{Wrote}
use Rattle.words.specs.SeqLaws.{take-sets}
use Rattle.words.specs.RunLaws.{wrote_length, wrote_ended}
use Rattle.row_walk.specs.RowWalks.{ancestors_at}
use Rattle.row_walk.specs.ScanLaws.{rows_left}
use Rattle.row_walk.specs.Meetings.{going, met_then, MeetsAt}
use Rattle.row_walk.specs.Batches.{met_below, yields, BatchWritten}
use Rattle.std.specs.Prelude.{Option as Maybe, Some, None}
use Rattle.row_walk.specs.declared.walk.Meeting.{Meeting}
use Rattle.row_walk.specs.declared.rule.Met.{Met}
use Rattle.row_walk.specs.declared.rule.Met.TheVariants.{Row as RowMet, Ids, Bad}

-- a batch drops ancestor ids
batch_ids : (depth : ℕ) (rows : List ValueRow) (rest : List Event) → batch_of (ancestors_at depth rows ++ rest) ≡ batch_of rest
unfolding ancestors_at batch_of
batch_ids depth [] rest = refl
batch_ids depth (x ∷ rows) rest =
    by_test (ltb x.depth depth)
    (λ e. rw e)
    (λ e. by_test (eqb x.depth depth) (λ d. rw (e, d) (batch_ids depth rows rest)) (λ d. rw (e, d) (batch_ids depth rows rest)))

pub yields_ids : (depth : ℕ) (rows : List ValueRow) (rest : List Event) → yields (ancestors_at depth rows ++ rest) ≡ yields rest
unfolding ancestors_at yields
yields_ids depth [] rest = refl
yields_ids depth (x ∷ rows) rest =
    by_test (ltb x.depth depth)
    (λ e. rw e)
    (λ e. by_test (eqb x.depth depth) (λ d. rw (e, d) (yields_ids depth rows rest)) (λ d. rw (e, d) (yields_ids depth rows rest)))

-- rows in front of a batch
abbrev pub in_front : List EntityRequest → Option (List EntityRequest) → Option (List EntityRequest)
in_front rows batch = batch >>= (λ more. some (rows ++ more))

-- The rows that are found so far are written, and the rest of what is met says what the whole batch is.
pub record Gathered (events : List Event) (out : List ℕ) (to : ℕ) (rest : List Event) (out' : List ℕ) (at : ℕ) : Type 0 where
  pub rows : List EntityRequest
  pub wrote : Wrote out to (map request_word rows) out' at
  pub whole : batch_of events ≡ in_front rows (batch_of rest)

pub gathered_none : (events : List Event) (out : List ℕ) (to : ℕ) → Gathered events out to events out to
gathered_none events out to = record { rows = []; wrote = record { after = omega arith; text = refl }; whole = go (batch_of events) }
  where
    go : (o : Option (List EntityRequest)) → o ≡ in_front [] o
    go none = refl
    go (some rows) = refl

module _ {events : List Event} {out : List ℕ} {to : ℕ} {out' : List ℕ} {at : ℕ} where
  -- a row is found
  pub gathered_row : (row : EntityRequest) (rest : List Event) → Gathered events out to (yielded row ∷ rest) out' at →
      Gathered events out to rest (set out' at (request_word row)) (at + 1)
  unfolding batch_of
  gathered_row row rest sofar = record {
    rows = sofar.rows ++ (row ∷ []);
    wrote =
        rw (map-append request_word sofar.rows (row ∷ []))
        (wrote_ended out (map request_word sofar.rows) to (request_word row) (sofar.wrote.after, sofar.wrote.text));
    whole = sofar.whole ∙ go (batch_of rest);
  }
    where
      go : (o : Option (List EntityRequest)) → in_front sofar.rows (o >>= (λ more. some (row ∷ more))) ≡ in_front (sofar.rows ++ (row ∷ [])) o
      go none = refl
      go (some more) = rw (append_assoc sofar.rows (row ∷ []) more)

  -- ids are dropped
  gathered_ids :
      (depth : ℕ) (rows : List ValueRow) (rest : List Event)
      → Gathered events out to (ancestors_at depth rows ++ rest) out' at
      → Gathered events out to rest out' at
  gathered_ids depth rows rest sofar =
      record { rows = sofar.rows; wrote = sofar.wrote; whole = sofar.whole ∙ rw (batch_ids depth rows rest) }

  -- 14 is met
  gathered_bad : (rest : List Event) → Gathered events out to (bad ∷ rest) out' at → BatchWritten out to out' (batch_of events) None
  unfolding batch_of
  gathered_bad rest sofar =
      let same : take to out' ≡ take to out = rw sofar.wrote.text (take-sets to out to (map request_word sofar.rows) (le_refl to)) in
      rw sofar.whole (same, wrote_length sofar.wrote)

  -- nothing more is met
  pub gathered_all : Gathered events out to [] out' at → BatchWritten out to out' (batch_of events) (Some at)
  unfolding batch_of
  gathered_all sofar = rw (sofar.whole, append-nil sofar.rows) sofar.wrote

-- A batch is gathered from the words of nodes and values: the rest of what is met is that of the walk, and there is room for its rows.
pub record Gathering (nodes values : List ℕ) (depth from : ℕ) (out : List ℕ) (to : ℕ) (out' : List ℕ) (kept : List (Maybe ℕ)) (len i at : ℕ) : Type 0 where
  pub within : i ≤ length nodes
  pub counts : len ≤ length kept
  pub depths : length kept ≡ 32
  pub room : at + yields (going nodes values depth kept len i) ≤ length out
  pub gathered :
      Gathered (met_below nodes depth from values) out to (going nodes values depth kept len i) out' at

-- what is written has the length that it had
pub gathering_length :
    {nodes values : List ℕ} {depth from : ℕ} {out : List ℕ} {to : ℕ} {out' : List ℕ} {kept : List (Maybe ℕ)} {len i at : ℕ}
    → Gathering nodes values depth from out to out' kept len i at
    → length out' ≡ length out
gathering_length sofar = wrote_length sofar.gathered.wrote

module _ {nodes values : List ℕ} {depth from : ℕ} {out : List ℕ} {to : ℕ} {out' : List ℕ} {kept : List (Maybe ℕ)} {len i at : ℕ}
    (sofar : Gathering nodes values depth from out to out' kept len i at) where
  -- nothing more is met
  pub gathering_end :
      going nodes values depth kept len i ≡ []
      → BatchWritten out to out' (batch_of (met_below nodes depth from values)) (Some at)
  gathering_end e = gathered_all (rw e at sofar.gathered)

  module _ {kept' : List (Maybe ℕ)} {r : Meeting} (meets : MeetsAt nodes values depth kept len i kept' r) (same : length kept' ≡ length kept) where
    -- the next that is met, and the rest
    next : {met : Met} → r.met ≡ met →
        Gathered (met_below nodes depth from values) out to
        (met_then values r.node met (going nodes values depth kept' r.len (r.node + 1))) out' at
    next is = rw is at (rw meets.meets at sofar.gathered)

    next_room : {met : Met} → r.met ≡ met →
        at + yields (met_then values r.node met (going nodes values depth kept' r.len (r.node + 1))) ≤ length out
    next_room is = rw is at (rw meets.meets at sofar.room)

    pub gathering_bad :
        r.met ≡ Bad
        → BatchWritten out to out' (batch_of (met_below nodes depth from values)) None
    gathering_bad is = gathered_bad _ (next is)

    -- a row is met at a node, its id is small, and there is room for it
    pub row_inside : {e : ℕ} → r.met ≡ RowMet e → (r.node < length nodes) × (e < ids) × (at < length out)
    unfolding yields
    row_inside {e} is =
        let small : e < ids = rw is at meets.small in (meets.inside, small, omega (arith, next_room is))

    pub gathering_row : {e : ℕ} → r.met ≡ RowMet e →
        Gathering nodes values depth from out to (set out' at (e + r.node * ids)) kept' r.len (r.node + 1) (at + 1)
    unfolding yields
    gathering_row {e} is =
        let (inside, small, room) = row_inside is in
        record {
          within = omega arith;
          counts = meets.counts;
          depths = same ∙ sofar.depths;
          room = omega (arith, next_room is);
          gathered = gathered_row (record { id = e; node = r.node }) _ (next is);
        }

    pub gathering_ids : {p d : ℕ} → r.met ≡ Ids p d → Gathering nodes values depth from out to out' kept' r.len (r.node + 1) at
    gathering_ids {p} {d} is =
        record {
          within = omega (arith, meets.inside);
          counts = meets.counts;
          depths = same ∙ sofar.depths;
          room = rw (yields_ids d (value_rows_of (drop p values)) (going nodes values depth kept' r.len (r.node + 1))) at (next_room is);
          gathered = gathered_ids d (value_rows_of (drop p values)) _ (next is);
        }

-- ---- the children of a node

pub drop-map : {A B : Type 0} (f : A → B) (i : ℕ) (l : List A) → drop i (map f l) ≡ map f (drop i l)
drop-map f zero l = refl
drop-map f (suc i) [] = refl
drop-map f (suc i) (x ∷ l) = drop-map f i l

-- the walk behind a node, by the rows from it on
abbrev behind : ℕ → List ValueRow → List Row → List Event
behind node run rest = elim rest [ [] ↦ [] | row ∷ rows ↦ walk_rows row.depth (some run ∷ []) (suc node) rows ]

-- they are those below its depth, from behind it on
pub remaining_below :
    (nodes : List ℕ) (node : ℕ) (run : List ValueRow)
    → node < length nodes
    → remaining_rows (rows_of nodes) node run
    ≡ walk_rows (depth_in (get_or nodes node 0)) (some run ∷ []) (node + 1) (rows_of (drop (node + 1) nodes))
remaining_below nodes node run h =
    ap (behind node run) (drop-map row_in node nodes ∙ rows_left row_in nodes node h)
    ∙ ap (λ (next : ℕ). walk_rows (depth_in (get_or nodes node 0)) (some run ∷ []) next (rows_of (drop (node + 1) nodes))) (sym (add-one node))

-- past the last node there is none
pub remaining_past : (nodes : List ℕ) (node : ℕ) (run : List ValueRow) → length nodes ≤ node → remaining_rows (rows_of nodes) node run ≡ []
remaining_past nodes node run h = ap (behind node run) (drop-map row_in node nodes ∙ ap (map row_in) (drop_of_length-le nodes h))

pub remaining_none :
    (nodes : List ℕ) (node : ℕ) (run : List ValueRow) (out : List ℕ) (to : ℕ)
    → length nodes ≤ node
    → BatchWritten out to out (batch_of (remaining_rows (rows_of nodes) node run)) (Some to)
unfolding batch_of
remaining_none nodes node run out to h = rw (remaining_past nodes node run h) (record { after = omega arith; text = refl })
