-- Laws of judging and writing all ancestors requests. No contract cites this file.
use Rattle.std.specs.Prelude.{ℕ, suc, ◌+◌, ◌-◌, ◌≤◌, ◌<◌, ◌≡◌, false, length, take, drop, get_or, set}
use Rattle.std.proofs.Math.Numerals.{add-one}
use Rattle.std.proofs.Common.{arith, sym, ◌∙◌, length-append, drop_of_length-le, length-take-le, take_all, take-suc}
use Rattle.std.proofs.Math.Path.{refl, ap}
use mathlib.Core.List.{List, [], ◌∷◌, ◌++◌, flatten, map, map-append, append_assoc, append-nil}
use Rattle.std.proofs.lemmas.List.{length-map}
use Rattle.std.proofs.lemmas.List.Edits.{sets}
use Rattle.std.proofs.Math.Seq.{length-sets}
use Rattle.rules.specs.Tries.{Row}
use Rattle.rules.specs.Loading.{LoadAnswer, done, refused_at, counted, ◌then◌, Request, EntityRequest, Loaded, has_child, ancestors_request, ancestors_requests}
use Rattle.words.specs.Runs.{Wrote}
use Rattle.words.specs.RunLaws.{wrote_more}
use Rattle.words.specs.SeqLaws.{sets_snoc, set_before}
use Rattle.words.specs.Replies.{Reply, Done, Refused as RefusedReply}
use Rattle.rows.specs.Words.{row_in, depth_in}
use Rattle.rows.specs.States.{rows_of}
use Rattle.values.specs.ValueWords.{row_asked}
use Rattle.row_walk.specs.RowWalks.{child_test}
use Rattle.row_walk.specs.BatchLaws.{drop-map}
use Rattle.row_walk.specs.ScanLaws.{rows_left}
use Rattle.ancestors.specs.Sets.{ids_of}
use Rattle.slices.specs.Slices.{rows_asked}
use Rattle.ancestors.specs.Takings.{Asks}
use Rattle.ancestors.specs.Requests.{roots_below, head_of, heads, JudgedAs, MayWrite, WrittenAs, RoomFor, RequestsAnswered}
use Rattle.ancestors.specs.RoomLaws.{none_asked}
use Rattle.std.specs.Prelude.{Result, Ok, Err}
use Rattle.ancestors.specs.declared.set.AncestorSet.{AncestorSet}

-- ---- whether a node has an ancestors trie

pub roots_past : (nodes : List ℕ) (n : ℕ) → length nodes ≤ n → roots_below (drop n (rows_of nodes)) ≡ false
roots_past nodes n h = ap roots_below (drop-map row_in n nodes ∙ ap (map row_in) (drop_of_length-le nodes h))

pub roots_there :
    (nodes : List ℕ) (n : ℕ)
    → n < length nodes
    → roots_below (drop n (rows_of nodes)) ≡ has_child (child_test false) (depth_in (get_or nodes n 0)) (rows_of (drop (n + 1) nodes))
roots_there nodes n inside = ap roots_below (drop-map row_in n nodes ∙ rows_left row_in nodes n inside)

-- ---- judged

-- the ids that are asked for
pub asked_done :
    {answer : ℕ → LoadAnswer (List ℕ)} {r : Result AncestorSet ℕ} {set : AncestorSet} → Asks answer r → r ≡ Ok set → (place : ℕ) → answer place ≡ done (ids_of set)
asked_done asks is place = asks.asks place ∙ rw is

module _ (request : Request) (nodes : List Row) (slice : List Loaded) (asked : List ℕ) where
  -- the requests from a row on
  abbrev pub requests_from : ℕ → LoadAnswer (List (List ℕ))
  requests_from i = ancestors_requests request nodes slice i (rows_asked (drop i asked))

  -- The requests of the rows up to a place are done, with these ids.
  pub record RequestsJudged (i : ℕ) : Type 0 where
    pub front : List (List ℕ)
    pub as_many : length front ≡ i
    pub sofar : requests_from 0 ≡ requests_from i then (λ more. done (front ++ more))

  pub judging_none : RequestsJudged 0
  judging_none = record { front = []; as_many = refl; sofar = go (requests_from 0) }
    where
      go : (o : LoadAnswer (List (List ℕ))) → o ≡ o then (λ more. done ([] ++ more))
      go (done lists) = refl
      go (refused_at m n) = refl
      go (counted m n) = refl

  module _ {i : ℕ} (judging : RequestsJudged i) where
    -- no row is left
    pub judged_lists : length asked ≤ i → requests_from 0 ≡ done judging.front
    unfolding ancestors_requests
    judged_lists h = judging.sofar ∙ rw (drop_of_length-le asked h, append-nil judging.front)

    pub judged_all : length asked ≤ i → JudgedAs (requests_from 0) Done
    judged_all h = rw (judged_lists h) refl

    module _ (inside : i < length asked) where
      next_request :
          requests_from i
          ≡ ancestors_request request nodes slice i (row_asked (get_or asked i 0)) then
          (λ wanted. requests_from (i + 1) then (λ more. done (wanted ∷ more)))
      unfolding ancestors_requests
      next_request = ap (ancestors_requests request nodes slice i) (rows_left row_asked asked i inside) ∙ rw (← add-one i)

      -- the next is refused
      refused_all : {number : ℕ} → ancestors_request request nodes slice i (row_asked (get_or asked i 0)) ≡ refused_at number i → requests_from 0
          ≡ refused_at number i
      refused_all e = judging.sofar ∙ rw (next_request, e)

      pub judged_refused :
          {r : Result AncestorSet ℕ} {number : ℕ}
          → Asks (λ place. ancestors_request request nodes slice place (row_asked (get_or asked i 0))) r
          → r ≡ Err number
          → JudgedAs (requests_from 0) (RefusedReply number i)
      judged_refused {number = number} asks is = rw (refused_all {number = number} (asks.asks i ∙ rw is)) refl

      -- it is done
      pub judging_next :
          {wanted : List ℕ} → ancestors_request request nodes slice i (row_asked (get_or asked i 0)) ≡ done wanted → RequestsJudged (i + 1)
      judging_next {wanted} e = record {
        front = judging.front ++ (wanted ∷ []);
        as_many = omega (arith, length-append judging.front (wanted ∷ []), judging.as_many);
        sofar = judging.sofar ∙ rw (next_request, e) (go (requests_from (i + 1)));
      }
        where
          go :
              (o : LoadAnswer (List (List ℕ)))
              → o then (λ more. done (wanted ∷ more)) then (λ more. done (judging.front ++ more))
              ≡ o then (λ more. done (judging.front ++ (wanted ∷ []) ++ more))
          go (done more) = rw (append_assoc judging.front (wanted ∷ []) more)
          go (refused_at m n) = refl
          go (counted m n) = refl

      -- its node has no ancestors trie
      pub judging_empty : roots_below (drop (row_asked (get_or asked i 0)).node nodes) ≡ false → RequestsJudged (i + 1)
      judging_empty none = judging_next (none_asked request nodes slice i (row_asked (get_or asked i 0)) none)

-- ---- as words

flatten_append : (a b : List (List ℕ)) → flatten (a ++ b) ≡ flatten a ++ flatten b
unfolding flatten
flatten_append [] b = refl
flatten_append (x ∷ a) b = rw (flatten_append a b) (sym (append_assoc x (flatten a) (flatten b)))

flatten_more : (lists : List (List ℕ)) (wanted : List ℕ) → flatten (lists ++ (wanted ∷ [])) ≡ flatten lists ++ wanted
unfolding flatten
flatten_more lists wanted = flatten_append lists (wanted ∷ []) ∙ rw (append-nil wanted)

flatten_length : (lists : List (List ℕ)) (wanted : List ℕ) (more : List (List ℕ)) →
    length (flatten (lists ++ (wanted ∷ []) ++ more)) ≡ length (flatten lists) + length wanted + length (flatten more)
flatten_length lists wanted more =
    rw (flatten_append (lists ++ (wanted ∷ [])) more, flatten_more lists wanted)
    (omega (arith, length-append (flatten lists ++ wanted) (flatten more), length-append (flatten lists) wanted))

heads_more : (rows : List EntityRequest) (lists : List (List ℕ)) (row : EntityRequest) (wanted : List ℕ) → length rows ≡ length lists →
    heads (rows ++ (row ∷ [])) (lists ++ (wanted ∷ [])) ≡ heads rows lists ++ (head_of row.id (length wanted) ∷ [])
unfolding heads
heads_more [] [] row wanted e = refl
heads_more [] (x ∷ lists) row wanted e = absurd (omega arith)
heads_more (r ∷ rows) [] row wanted e = absurd (omega arith)
heads_more (r ∷ rows) (x ∷ lists) row wanted e = rw (heads_more rows lists row wanted (omega arith))

heads_length : (rows : List EntityRequest) (lists : List (List ℕ)) → length rows ≡ length lists → length (heads rows lists) ≡ length rows
unfolding heads
heads_length [] lists e = refl
heads_length (r ∷ rows) [] e = absurd (omega arith)
heads_length (r ∷ rows) (x ∷ lists) e = ap suc (heads_length rows lists (omega arith))

-- a run behind a run
sets_both : (out xs ys : List ℕ) (at : ℕ) → sets (sets out at xs) (at + length xs) ys ≡ sets out at (xs ++ ys)
sets_both out xs ys at =
    let first : Wrote out at xs (sets out at xs) (at + length xs) = record { after = refl; text = refl } in
    let second : Wrote (sets out at xs) (at + length xs) ys (sets (sets out at xs) (at + length xs) ys) (at + length xs + length ys) =
    record { after = refl; text = refl } in
    (wrote_more first second).text

-- The request for a row is done, and its few ids are written.
pub record IdsWritten
    (request : Request) (nodes : List Row) (slice : List Loaded) (asked : List ℕ) (i : ℕ) (out : List ℕ) (at : ℕ) (out' : List ℕ) (at' : ℕ)
    : Type 0 where
  pub wanted : List ℕ
  pub is : ancestors_request request nodes slice i (row_asked (get_or asked i 0)) ≡ done wanted
  pub wrote : Wrote out at wanted out' at'
  pub few : length wanted ≤ 256

module _ (request : Request) (nodes : List Row) (slice : List Loaded) (asked : List ℕ) where
  -- its node has no ancestors trie
  pub no_ids :
      {i : ℕ} (out : List ℕ) (at : ℕ)
      → roots_below (drop (row_asked (get_or asked i 0)).node nodes) ≡ false
      → IdsWritten request nodes slice asked i out at out at
  no_ids {i} out at none = record {
    wanted = [];
    is = none_asked request nodes slice i (row_asked (get_or asked i 0)) none;
    wrote = record { after = omega arith; text = refl };
    few = omega arith;
  }

  abbrev whole : LoadAnswer (List (List ℕ))
  whole = requests_from request nodes slice asked 0

  -- The requests of the rows up to a place are written: their heads, and behind all heads their ids.
  pub record Writing (out₀ out : List ℕ) (at i : ℕ) : Type 0 where
    pub judging : RequestsJudged request nodes slice asked i
    pub within : i ≤ length asked
    pub after : at ≡ length asked + 1 + length (flatten judging.front)
    pub text : out ≡ sets (sets out₀ 1 (heads (rows_asked (take i asked)) judging.front)) (length asked + 1) (flatten judging.front)

  pub writing_none : (out : List ℕ) → Writing out out (length asked + 1) 0
  unfolding judging_none flatten heads
  writing_none out = record { judging = judging_none request nodes slice asked; within = omega arith; after = omega arith; text = refl }

  -- what is done begins with what was done so far
  front_of : {i : ℕ} (judging : RequestsJudged request nodes slice asked i) (lists : List (List ℕ)) → whole ≡ done lists →
      (more : List (List ℕ)) × (lists ≡ judging.front ++ more)
  front_of {i} judging lists is = go (requests_from request nodes slice asked i) (sym is ∙ judging.sofar)
    where
      go : (o : LoadAnswer (List (List ℕ))) → done lists ≡ o then (λ more. done (judging.front ++ more)) →
          (more : List (List ℕ)) × (lists ≡ judging.front ++ more)
      go (done more) e = (more, cc)
      go (refused_at m n) e = absurd (let z : ◌≡◌ {A = ℕ} 0 1 = cc in omega arith)
      go (counted m n) e = absurd (let z : ◌≡◌ {A = ℕ} 0 1 = cc in omega arith)

  module _ {out₀ out : List ℕ} {at i : ℕ} (may : MayWrite whole asked out₀) (writing : Writing out₀ out at i) where
    abbrev front : List (List ℕ)
    front = writing.judging.front

    rows_many : length (rows_asked (take i asked)) ≡ length front
    rows_many = length-map (take i asked) row_asked ∙ length-take-le i asked writing.within ∙ sym writing.judging.as_many

    pub writing_length : length out ≡ length out₀
    writing_length =
        let hs : List ℕ = heads (rows_asked (take i asked)) front in
        rw (writing.text, length-sets (sets out₀ 1 hs) (length asked + 1) (flatten front)) (length-sets out₀ 1 hs)

    -- the words with the count in front
    pub written : length asked ≤ i → WrittenAs whole asked out₀ (set out 0 (length asked))
    written h lists is =
        let lists_are : lists ≡ front = cc (judged_lists request nodes slice asked writing.judging h) in
        let hs : List ℕ = heads (rows_asked asked) front in
        let all : take i asked ≡ asked = take_all i asked h in
        let long : length hs ≡ length asked = heads_length (rows_asked asked) front (rw all at rows_many) ∙ length-map asked row_asked in
        let place : length asked + 1 ≡ 1 + length hs = omega arith in
        rw (writing.text, all, lists_are)
        (set_before (sets out₀ 1 hs) 0 (length asked) (length asked + 1) (flatten front) (omega arith)
        ∙ ap (λ l. sets l (length asked + 1) (flatten front)) (set_before out₀ 0 (length asked) 1 hs (omega arith))
        ∙ rw place (sets_both (set out₀ 0 (length asked)) hs (flatten front) 1))

    module _ (inside : i < length asked) where
      -- the next is not refused
      pub not_refused :
          {r : Result AncestorSet ℕ} {number : ℕ}
          → Asks (λ place. ancestors_request request nodes slice place (row_asked (get_or asked i 0))) r
          → r ≡ Err number
          → ⊥
      not_refused {r} {number} asks e =
          let z : ◌≡◌ {A = ℕ} 0 1 =
          cc (refused_all request nodes slice asked writing.judging inside {number = number} (asks.asks i ∙ rw e), may.is_done) in
          omega arith

      module _ {wanted : List ℕ} (is : ancestors_request request nodes slice i (row_asked (get_or asked i 0)) ≡ done wanted) where
        next : RequestsJudged request nodes slice asked (i + 1)
        next = judging_next request nodes slice asked writing.judging inside is

        next_front : next.front ≡ front ++ (wanted ∷ [])
        unfolding next judging_next
        next_front = refl

        -- there is room for its ids
        pub writing_room : at + length wanted ≤ length out₀
        writing_room =
            let (more, are) = front_of next may.lists may.is_done in
            let all : length (flatten may.lists) ≡ length (flatten front) + length wanted + length (flatten more) =
            ap (λ l. length (flatten l)) (are ∙ ap (λ l. l ++ more) next_front) ∙ flatten_length front wanted more in
            omega (arith, all, may.room, writing.after)

      -- its ids and its head are written
      pub writing_next :
          {out₁ : List ℕ} {at₁ word : ℕ} (ids : IdsWritten request nodes slice asked i out at out₁ at₁)
          → word ≡ head_of (row_asked (get_or asked i 0)).id (at₁ - at)
          → Writing out₀ (set out₁ (i + 1) word) at₁ (i + 1)
      writing_next {out₁} {at₁} {word} ids is-head =
          let wanted : List ℕ = ids.wanted in
          let hs : List ℕ = heads (rows_asked (take i asked)) front in
          let many : at₁ - at ≡ length wanted = omega (arith, ids.wrote.after) in
          let head : ℕ = head_of (row_asked (get_or asked i 0)).id (length wanted) in
          let is : word ≡ head = is-head ∙ rw many in
          let long : length hs ≡ i =
          heads_length (rows_asked (take i asked)) front rows_many ∙ rows_many ∙ writing.judging.as_many in
          let rows : rows_asked (take (i + 1) asked) ≡ rows_asked (take i asked) ++ (row_asked (get_or asked i 0) ∷ []) =
          rw (add-one, take-suc asked i 0 inside) (map-append row_asked (take i asked) (get_or asked i 0 ∷ [])) in
          let place : i + 1 ≡ 1 + length hs = omega arith in
          let with-ids : out₁ ≡ sets (sets out₀ 1 hs) (length asked + 1) (flatten front ++ wanted) =
          ids.wrote.text
          ∙ ap (λ l. sets l at wanted) writing.text
          ∙ ap (λ n. sets (sets (sets out₀ 1 hs) (length asked + 1) (flatten front)) n wanted) writing.after
          ∙ sets_both (sets out₀ 1 hs) (flatten front) wanted (length asked + 1) in
          record {
            judging = next ids.is;
            within = omega arith;
            after =
                rw (next_front ids.is, flatten_more front wanted)
                (omega (arith, ids.wrote.after, writing.after, length-append (flatten front) wanted));
            text =
                rw (
                  next_front ids.is,
                  rows,
                  heads_more (rows_asked (take i asked)) front (row_asked (get_or asked i 0)) wanted rows_many,
                  flatten_more front wanted,
                )
                (ap (λ w. set out₁ (i + 1) w) is
                ∙ ap (λ l. set l (i + 1) head) with-ids
                ∙ set_before (sets out₀ 1 hs) (i + 1) head (length asked + 1) (flatten front ++ wanted) (omega arith)
                ∙ rw (sets_snoc out₀ 1 hs head, place));
          }

-- ---- judged, and then written

-- what is judged to be done is done
judged_done : (answer : LoadAnswer (List (List ℕ))) → JudgedAs answer Done → (lists : List (List ℕ)) × (answer ≡ done lists)
judged_done (done lists) e = (lists, refl)
judged_done (refused_at number place) e = absurd (let z : ◌≡◌ {A = ℕ} 0 1 = cc in omega arith)
judged_done (counted expected got) e = absurd e

pub may_write : (answer : LoadAnswer (List (List ℕ))) (asked out : List ℕ) → JudgedAs answer Done → RoomFor answer asked out → MayWrite answer asked out
may_write answer asked out judged room =
    let (lists, is) = judged_done answer judged in
    record { lists = lists; is_done = is; room = room lists is }

pub answered_done :
    (answer : LoadAnswer (List (List ℕ))) (asked out out' : List ℕ)
    → JudgedAs answer Done
    → WrittenAs answer asked out out'
    → RequestsAnswered answer asked out out' Done
answered_done answer asked out out' judged wrote = let (lists, is) = judged_done answer judged in rw is (refl, wrote lists is)

pub answered_refused :
    (answer : LoadAnswer (List (List ℕ))) (asked out : List ℕ) (reply : Reply) {number place : ℕ}
    → JudgedAs answer reply
    → reply ≡ RefusedReply number place
    → RequestsAnswered answer asked out out reply
answered_refused (done lists) asked out reply judged is = absurd (let z : ◌≡◌ {A = ℕ} 0 1 = cc in omega arith)
answered_refused (refused_at m n) asked out reply judged is = (judged, refl)
answered_refused (counted expected got) asked out reply judged is = absurd judged
