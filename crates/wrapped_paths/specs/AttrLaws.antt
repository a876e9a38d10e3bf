-- Laws of what `attr` makes of wrapped paths, head by head. No contract cites this file.
use Rattle.std.specs.Prelude.{ℕ, suc, ◌+◌, ◌*◌, ◌-◌, ◌/◌, ◌%◌, ◌≤◌, ◌<◌, ◌≡◌, Bool, true, false, cond, eqb, drop, set}
use Rattle.std.proofs.Math.Nat.{add-sub_cancel_left}
use Rattle.std.proofs.Common.{add-one, ◌∙◌, true≢false, length-drop, take-append-drop, drop-drop, take_all, take_at}
use native.Mathlib.Omega.{arith}
use Rattle.std.proofs.Math.Path.{refl, sym, ap}
use Rattle.std.proofs.lemmas.Bool.{false≢true}
use mathlib.Core.List.{List, [], ◌∷◌, ◌++◌, map, append_assoc, append-nil}
use Rattle.std.proofs.Math.Option.{Option, none, some}
use Rattle.std.proofs.Math.ListN.{length, take, get_or, length-append, length-map, get_or-append}
use Rattle.std.proofs.lemmas.List.Edits.{sets, sets-eq}
use Rattle.std.proofs.Math.Seq.{length-sets, length-take-le, take-append_seam, drop-append_seam, drop-append-add, get_or-append_seam}
use Rattle.std.proofs.lemmas.List.{take-append-le, drop-append-le}
use Rattle.words.specs.SeqLaws.{sets_snoc}
use Rattle.rules.specs.Listing.{◌>>=◌}
use Rattle.rules.specs.Tries.{id_of}
use Rattle.rules.specs.Paths.{
  Path,
  Paths,
  Empty,
  AccessPath,
  Union,
  RecordLiteral,
  SetLiteral,
  Fields,
  no_field,
  field,
  nodes_of,
  nodes_of_fields,
  paths_in,
  paths_in_fields,
  field_of,
  field_or,
  get_or_has_attr,
}
use Rattle.rules.proofs.StepLaws.{AllPaths, Each, IsPath, grown_in, grown_stepped, each_append, each_split}
use Rattle.words.specs.Runs.{Wrote}
use Rattle.wrapped_paths.specs.declared.Moved.{Moved}
use Rattle.std.specs.Prelude.{Some, None}
use Rattle.wrapped_paths.specs.declared.WrappedAccessPaths.{WrappedAccessPaths}
use Rattle.wrapped_paths.specs.declared.WrappedAccessPaths.TheVariants.{
  Empty as EmptyHead,
  AccessPath as PathHead,
  Union as UnionHead,
  RecordLiteral as RecordHead,
  SetLiteral as SetHead,
}
use Rattle.wrapped_paths.specs.Code.{head_of, head_word, root_in, size_of, count_in, names_in, root_kind, code, code_fields, codes, nodes_of_all, name_place, Standing, Measures, path_at, paths_at, AllWithin, Grew}
use Rattle.wrapped_paths.specs.Turns.{
  places_for,
  Noted,
  sides_of,
  TurnTook,
  IsGrown,
  Gained,
  field_from,
  Literal,
  FieldTaken,
  read_at,
  written_for,
  is_set,
  TurnRoom,
  Turned,
}
use Rattle.wrapped_paths.specs.CodeLaws.{place_most, field_paths, head_for, kind_small, kind_grown, ids_grown, path_back, codes_append, codes_fields, names_many, paths_within, code_turn, nodes_turn, nodes_words, Ahead, next_within, next_room, next_head_word, next_head, behind_word, stands_short, many_nodes, many_words, next_of, paths_at_append, within_append, places_few}

-- ---- one stands there

pub stands_alone : (words rest : List ℕ) (q : Paths) (at : ℕ) → drop at words ≡ code q ++ rest → Ahead words rest (q ∷ []) at 1
unfolding codes
stands_alone words rest q at e = record { as_many = refl; coded = rw append-nil e }

-- what stands at a place, cut at its end
cut : (words xs rest : List ℕ) (at end : ℕ) → drop at words ≡ xs ++ rest → end ≡ at + length xs → take (end - at) (drop at words) ≡ xs
cut words xs rest at end e f = rw (f, add-sub_cancel_left, e) (take-append_seam xs rest)

-- what stands behind it
pub behind_it : (words xs rest : List ℕ) (at : ℕ) → drop at words ≡ xs ++ rest → drop (at + length xs) words ≡ rest
behind_it words xs rest at e = sym (drop-drop (length xs) at words) ∙ rw e (drop-append_seam xs rest)

pub within_it : (words xs rest : List ℕ) (at : ℕ) → drop at words ≡ xs ++ rest → 0 < length xs → at + length xs ≤ length words
within_it words xs rest at e h = omega (arith, ap length e, length-drop at words, length-append xs rest)

-- ---- a path that gains a field

pub path_gained :
    (words rest path out out₁ : List ℕ) (at kind steps f to last : ℕ)
    → f < 65536
    → root_kind path ≡ kind
    → length path ≡ steps
    → drop at words ≡ code (AccessPath path) ++ rest
    → Wrote (set out to (head_word (PathHead kind (steps + 1)))) (to + 1) (take (at + 1 + steps - (at + 1)) (drop (at + 1) words)) out₁ last
    → TurnTook at (code (AccessPath path)) out to (code (AccessPath (path ++ (f ∷ [])))) (set out₁ last f) (record { from = at + 1 + steps; to = last + 1 })
unfolding code
path_gained words rest path out out₁ at kind steps f to last small rooted many e w =
    let ids = map id_of path in
    let as_many : length ids ≡ steps = length-map path id_of ∙ many in
    let behind : drop (at + 1) words ≡ ids ++ rest = behind_word words at e in
    let copied : take (at + 1 + steps - (at + 1)) (drop (at + 1) words) ≡ ids = cut words ids rest (at + 1) (at + 1 + steps) behind (rw as_many) in
    let more : length (path ++ (f ∷ [])) ≡ steps + 1 = length-append path (f ∷ []) ∙ rw many in
    let head : root_kind (path ++ (f ∷ [])) ≡ kind = kind_grown path f small ∙ rooted in
    let after_words : last ≡ to + 1 + length ids = w.after ∙ rw copied in
    let text : out₁ ≡ sets (set out to (head_word (PathHead kind (steps + 1)))) (to + 1) ids = w.text ∙ rw copied in
    record {
      next = omega arith;
      wrote = record {
        after = rw (ids_grown path f small) (omega (arith, length-append ids (f ∷ [])));
        text =
            rw (more, head, ids_grown path f small, text, after_words, add-one to)
            (sym (sets_snoc (set out to (head_word (PathHead kind (steps + 1)))) (suc to) ids f));
      };
    }

-- the paths of a result that gain a field
pub all_grown : (f : ℕ) (q : Paths) → f < 65536 → AllPaths (paths_in q) → Each IsGrown (grown_in f q)
unfolding paths_in grown_in Each
all_grown f Empty small h = tt
all_grown f (AccessPath path) small h =
    (record { steps = grown_stepped path f small h.0.steps; short = omega (arith, length-append path (f ∷ []), h.0.short) }, tt)
all_grown f (Union left right) small h =
    let (r, l) = each_split IsPath (paths_in right) (paths_in left) h in
    each_append IsGrown (grown_in f right) (grown_in f left) (all_grown f right small r) (all_grown f left small l)
all_grown f (RecordLiteral fields) small h = tt
all_grown f (SetLiteral elements) small h = tt

-- ---- the field of a record literal

-- the place-th of the fields is the first of that name
record FieldAt (f : ℕ) (fields : Fields) (place : ℕ) : Type 0 where
  front : List Paths
  value : Paths
  back : List Paths
  parts : field_paths fields ≡ front ++ value ∷ back
  as_many : length front ≡ place
  found : field_of f fields ≡ some value

field_found : (f : ℕ) (fields : Fields) → name_place (names_in fields) f < count_in fields → FieldAt f fields (name_place (names_in fields) f)
unfolding name_place names_in count_in field_paths field_of
field_found f no_field h = absurd (omega arith)
field_found f (field name paths fields) h = go (eqb name f) refl (field_found f fields) h
  where
    go :
        (same : Bool) → eqb name f ≡ same → (name_place (names_in fields) f < count_in fields → FieldAt f fields (name_place (names_in fields) f)) → cond same 0 (suc (name_place (names_in fields) f)) < suc (count_in fields)
        → FieldAt f (field name paths fields) (cond same 0 (suc (name_place (names_in fields) f)))
    go true e more h = record { front = []; value = paths; back = field_paths fields; parts = refl; as_many = refl; found = rw e }
    go false e more h =
        let rest = more (omega arith) in
        record {
          front = paths ∷ rest.front;
          value = rest.value;
          back = rest.back;
          parts = ap (λ (l : List Paths). paths ∷ l) rest.parts;
          as_many = ap suc rest.as_many;
          found = rw e rest.found;
        }

field_missing : (f : ℕ) (fields : Fields) → name_place (names_in fields) f ≡ count_in fields → field_of f fields ≡ none
unfolding name_place names_in count_in field_of
field_missing f no_field h = refl
field_missing f (field name paths fields) h = go (eqb name f) (field_missing f fields) h
  where
    go : (same : Bool) → (name_place (names_in fields) f ≡ count_in fields → field_of f fields ≡ none) → cond same 0 (suc (name_place (names_in fields) f)) ≡ suc (count_in fields) → cond same (some paths) (field_of f fields) ≡ none
    go true more h = absurd (omega arith)
    go false more h = more (omega arith)

-- a record literal stands there
pub record LiteralAt (words rest : List ℕ) (fields : Fields) (at count : ℕ) : Type 0 where
  pub as_many : count_in fields ≡ count
  pub coded : drop at words ≡ code (RecordLiteral fields) ++ rest

module _ {words rest : List ℕ} {fields : Fields} {at n : ℕ} (l : LiteralAt words rest fields at n) where
  pub literal_length : length (code (RecordLiteral fields)) ≡ 1 + n + length (codes (field_paths fields))
  unfolding code
  literal_length = omega (arith, length-append (names_in fields) (code_fields fields), names_many fields, ap length (codes_fields fields), l.as_many)

  pub literal_within : at + length (code (RecordLiteral fields)) ≤ length words
  literal_within = within_it words (code (RecordLiteral fields)) rest at l.coded (omega (arith, literal_length))

  -- its names, and its fields behind them
  pub behind_head : drop (at + 1) words ≡ names_in fields ++ (codes (field_paths fields) ++ rest)
  unfolding code
  behind_head = behind_word words at l.coded ∙ append_assoc (names_in fields) (code_fields fields) rest ∙ rw (codes_fields fields)

  pub literal_names : take (at + 1 + n - (at + 1)) (drop (at + 1) words) ≡ names_in fields
  literal_names =
      cut words (names_in fields) (codes (field_paths fields) ++ rest) (at + 1) (at + 1 + n) behind_head (rw (names_many fields, l.as_many))

  pub literal_fields : drop (at + 1 + n) words ≡ codes (field_paths fields) ++ rest
  literal_fields =
      rw (names_many fields, l.as_many) at (behind_it words (names_in fields) (codes (field_paths fields) ++ rest) (at + 1) behind_head)

  pub literal_standing : Standing words (at + 1 + n) n
  literal_standing = record { paths = field_paths fields; rest = rest; as_many = paths_within fields ∙ l.as_many; coded = literal_fields }

  module _ {end nodes : ℕ} (m : Measures words (at + 1 + n) n end nodes) where
    pub literal_end : end ≡ at + length (code (RecordLiteral fields))
    literal_end =
        omega (arith, (m (field_paths fields) rest (paths_within fields ∙ l.as_many) literal_fields).0, literal_length)

    module _ (f : ℕ) {place : ℕ} (p : place ≡ name_place (take (at + 1 + n - (at + 1)) (drop (at + 1) words)) f) where
      place_here : place ≡ name_place (names_in fields) f
      place_here = p ∙ ap (λ (l : List ℕ). name_place l f) literal_names

      -- without the field, the literal is copied
      module _ (missing : place ≡ n) where
        kept_literal : field_from f fields ≡ RecordLiteral fields
        kept_literal = rw (field_missing f fields (omega (arith, place_here, l.as_many)))

        pub literal_copy : take (end - at) (drop at words) ≡ code (field_from f fields)
        literal_copy = rw kept_literal (cut words (code (RecordLiteral fields)) rest at end l.coded literal_end)

      -- with it, it is the place-th
      module _ (there : place ≡ n → ⊥) where
        here : FieldAt f fields (name_place (names_in fields) f)
        here =
            field_found f fields
            (omega (arith, there, place_here, place_most (names_in fields) f, names_many fields, l.as_many))

        given : field_from f fields ≡ here.value
        given = rw here.found

        parted : drop (at + 1 + n) words ≡ codes here.front ++ (code here.value ++ (codes here.back ++ rest))
        unfolding codes
        parted = literal_fields ∙ rw (here.parts, codes_append here.front (here.value ∷ here.back)) (simp append_assoc)

        pub front_standing : Standing words (at + 1 + n) place
        front_standing = record {
          paths = here.front;
          rest = code here.value ++ (codes here.back ++ rest);
          as_many = here.as_many ∙ sym place_here;
          coded = parted;
        }

        module _ {start nodes₁ : ℕ} (m₁ : Measures words (at + 1 + n) place start nodes₁) where
          start_at : start ≡ at + 1 + n + length (codes here.front)
          start_at = (m₁ here.front (code here.value ++ (codes here.back ++ rest)) (here.as_many ∙ sym place_here) parted).0

          field_coded : drop start words ≡ code here.value ++ (codes here.back ++ rest)
          field_coded = rw start_at (behind_it words (codes here.front) (code here.value ++ (codes here.back ++ rest)) (at + 1 + n) parted)

          alone_coded : drop start words ≡ codes (here.value ∷ []) ++ (codes here.back ++ rest)
          unfolding codes
          alone_coded = rw append-nil field_coded

          pub field_standing : Standing words start 1
          field_standing = record { paths = here.value ∷ []; rest = codes here.back ++ rest; as_many = refl; coded = alone_coded }

          module _ {stop nodes₂ : ℕ} (m₂ : Measures words start 1 stop nodes₂) where
            stop_at : stop ≡ start + length (code here.value)
            unfolding codes
            stop_at = (m₂ (here.value ∷ []) (codes here.back ++ rest) refl alone_coded).0 ∙ rw append-nil

            pub stop_within : stop ≤ length words
            stop_within =
                rw stop_at
                (within_it words (code here.value) (codes here.back ++ rest) start field_coded (omega (arith, ap length (code_turn here.value))))

            pub start_before : start ≤ stop
            start_before = omega (arith, stop_at)

            pub field_copy : take (stop - start) (drop start words) ≡ code (field_from f fields)
            field_copy = rw given (cut words (code here.value) (codes here.back ++ rest) start stop field_coded stop_at)

-- ---- by the head

-- wrapped paths by what their head says
pub empty_of : (q : Paths) → head_for q ≡ EmptyHead → q ≡ Empty
empty_of Empty e = refl
empty_of (AccessPath path) e = cc
empty_of (Union left right) e = cc
empty_of (RecordLiteral fields) e = cc
empty_of (SetLiteral elements) e = cc

pub path_of : (q : Paths) (kind n : ℕ) → head_for q ≡ PathHead kind n → (path : Path) × (q ≡ AccessPath path) × (root_kind path ≡ kind) × (length path ≡ n)
path_of Empty kind n e = absurd (let z : ◌≡◌ {A = ℕ} 0 1 = cc in omega arith)
path_of (AccessPath path) kind n e = (path, refl, ap root_in e, ap size_of e)
path_of (Union left right) kind n e = absurd (let z : ◌≡◌ {A = ℕ} 0 1 = cc in omega arith)
path_of (RecordLiteral fields) kind n e = absurd (let z : ◌≡◌ {A = ℕ} 0 1 = cc in omega arith)
path_of (SetLiteral elements) kind n e = absurd (let z : ◌≡◌ {A = ℕ} 0 1 = cc in omega arith)

pub union-of : (q : Paths) → head_for q ≡ UnionHead → (left : Paths) × (right : Paths) × (q ≡ Union left right)
union-of Empty e = absurd (let z : ◌≡◌ {A = ℕ} 0 1 = cc in omega arith)
union-of (AccessPath path) e = absurd (let z : ◌≡◌ {A = ℕ} 0 1 = cc in omega arith)
union-of (Union left right) e = (left, right, refl)
union-of (RecordLiteral fields) e = absurd (let z : ◌≡◌ {A = ℕ} 0 1 = cc in omega arith)
union-of (SetLiteral elements) e = absurd (let z : ◌≡◌ {A = ℕ} 0 1 = cc in omega arith)

pub record_of : (q : Paths) (n : ℕ) → head_for q ≡ RecordHead n → (fields : Fields) × (q ≡ RecordLiteral fields) × (count_in fields ≡ n)
record_of Empty n e = absurd (let z : ◌≡◌ {A = ℕ} 0 1 = cc in omega arith)
record_of (AccessPath path) n e = absurd (let z : ◌≡◌ {A = ℕ} 0 1 = cc in omega arith)
record_of (Union left right) n e = absurd (let z : ◌≡◌ {A = ℕ} 0 1 = cc in omega arith)
record_of (RecordLiteral fields) n e = (fields, refl, cc)
record_of (SetLiteral elements) n e = absurd (let z : ◌≡◌ {A = ℕ} 0 1 = cc in omega arith)

pub set-of : (q : Paths) → head_for q ≡ SetHead → (elements : Paths) × (q ≡ SetLiteral elements)
set-of Empty e = absurd (let z : ◌≡◌ {A = ℕ} 0 1 = cc in omega arith)
set-of (AccessPath path) e = absurd (let z : ◌≡◌ {A = ℕ} 0 1 = cc in omega arith)
set-of (Union left right) e = absurd (let z : ◌≡◌ {A = ℕ} 0 1 = cc in omega arith)
set-of (RecordLiteral fields) e = absurd (let z : ◌≡◌ {A = ℕ} 0 1 = cc in omega arith)
set-of (SetLiteral elements) e = (elements, refl)

-- ---- words enough

-- a path has a word for each step, its head and a name; any other node a head and a name
mutual
  unfolding paths_in paths_in_fields nodes_of nodes_of_fields code code_fields count_in Each

  words_few : (q : Paths) → AllPaths (paths_in q) → length (code q) + 1 ≤ 26 * nodes_of q
  words_few Empty h = omega arith
  words_few (AccessPath path) h = omega (arith, h.0.short, length-map path id_of)
  words_few (Union left right) h =
      let (r, l) = each_split IsPath (paths_in right) (paths_in left) h in
      omega (arith, words_few right r, words_few left l, length-append (code right) (code left))
  words_few (RecordLiteral fields) h =
      omega (arith, fields_few fields h, length-append (names_in fields) (code_fields fields), names_many fields)
  words_few (SetLiteral elements) h = omega (arith, words_few elements h)

  fields_few : (fields : Fields) → AllPaths (paths_in_fields fields) → count_in fields + length (code_fields fields) ≤ 26 * nodes_of_fields fields
  fields_few no_field h = omega arith
  fields_few (field name paths fields) h =
      let (a, b) = each_split IsPath (paths_in paths) (paths_in_fields fields) h in
      omega (arith, words_few paths a, fields_few fields b, length-append (code paths) (code_fields fields))

-- a result's paths: at most the head of a literal, and 26 words for each of 255 nodes
pub words_most : (q : Paths) → AllPaths (paths_in q) → nodes_of q ≤ 256 → length (code q) ≤ 6631
unfolding paths_in nodes_of code Each
words_most Empty h few = omega arith
words_most (AccessPath path) h few = omega (arith, h.0.short, length-map path id_of)
words_most (Union left right) h few =
    let (r, l) = each_split IsPath (paths_in right) (paths_in left) h in
    omega (arith, words_few right r, words_few left l, length-append (code right) (code left))
words_most (RecordLiteral fields) h few =
    omega (arith, fields_few fields h, length-append (names_in fields) (code_fields fields), names_many fields)
words_most (SetLiteral elements) h few = omega (arith, words_few elements h)

-- a literal gives no more words than it has
field_few : (f : ℕ) (fields : Fields) (q : Paths) → field_of f fields ≡ some q → length (code q) ≤ length (code_fields fields)
unfolding field_of code_fields
field_few f no_field q e = absurd (let z : ◌≡◌ {A = ℕ} 0 1 = cc in omega arith)
field_few f (field name paths fields) q e =
    go (eqb name f) (λ k. field_few f fields q k) e
  where
    go :
        (same : Bool) → (field_of f fields ≡ some q → length (code q) ≤ length (code_fields fields))
        → cond same (some paths) (field_of f fields) ≡ some q
        → length (code q) ≤ length (code paths ++ code_fields fields)
    go true more e = let same : paths ≡ q = cc in rw (← same) (omega (arith, length-append (code paths) (code_fields fields)))
    go false more e = omega (arith, more e, length-append (code paths) (code_fields fields))

from_few : (f : ℕ) (fields : Fields) → length (code (field_from f fields)) ≤ length (code (RecordLiteral fields))
unfolding code
from_few f fields = go (field_of f fields) refl
  where
    go : (o : Option Paths) → field_of f fields ≡ o → length (code (field_or o (RecordLiteral fields))) ≤ length (code (RecordLiteral fields))
    go none e = omega arith
    go (some q) e = omega (arith, field_few f fields q e, length-append (names_in fields) (code_fields fields))

-- each path that gains a field is a node, and has room for it among the words of a node
pub grown_nodes : (f : ℕ) (q : Paths) → length (grown_in f q) ≤ nodes_of q
unfolding grown_in nodes_of
grown_nodes f Empty = omega arith
grown_nodes f (AccessPath path) = omega arith
grown_nodes f (Union left right) = omega (arith, grown_nodes f right, grown_nodes f left, length-append (grown_in f right) (grown_in f left))
grown_nodes f (RecordLiteral fields) = omega arith
grown_nodes f (SetLiteral elements) = omega arith

pub grown_few : (f : ℕ) (q : Paths) → AllPaths (paths_in q) → length (code q) + length (grown_in f q) ≤ 26 * nodes_of q
unfolding grown_in nodes_of paths_in code Each
grown_few f Empty h = omega arith
grown_few f (AccessPath path) h = omega (arith, h.0.short, length-map path id_of)
grown_few f (Union left right) h =
    let (r, l) = each_split IsPath (paths_in right) (paths_in left) h in
    omega (
      arith,
      grown_few f right r,
      grown_few f left l,
      length-append (code right) (code left),
      length-append (grown_in f right) (grown_in f left),
    )
grown_few f (RecordLiteral fields) h = omega (arith, words_few (RecordLiteral fields) h)
grown_few f (SetLiteral elements) h = omega (arith, words_few elements h)

-- ---- one turn

module _ (words rest : List ℕ) (q : Paths) (at : ℕ) (e : drop at words ≡ code q ++ rest) where
  word_here : get_or words at 0 ≡ head_word (head_for q)
  word_here = next_head_word (stands_alone words rest q at e)

  pub head_here : head_of (get_or words at 0) ≡ head_for q
  head_here = next_head (stands_alone words rest q at e)

module _ {words out : List ℕ} {at f to : ℕ} (r : TurnRoom words at f out to) where
  here_alone : Ahead words r.rest (r.paths ∷ []) at 1
  here_alone = stands_alone words r.rest r.paths at r.coded

  pub room_within : at < length words
  room_within = next_within here_alone

  pub room_out : to < length out
  room_out = omega (arith, r.fits, nodes_turn r.paths, nodes_words r.paths)

  here_head : {h : WrappedAccessPaths} → head_of (get_or words at 0) ≡ h → head_for r.paths ≡ h
  here_head said = sym (head_here words r.rest r.paths at r.coded) ∙ said

  pub room_path :
      (kind n : ℕ) → head_of (get_or words at 0) ≡ PathHead kind n
      → (at + 1 + n ≤ length words) × ((to + 2 + n ≤ length out) × ((kind < 8) × (n ≤ 24)))
  unfolding code grown_in Each
  room_path kind n said =
      let (path, same, rooted, many) = path_of r.paths kind n (here_head said) in
      let grown = rw same at r.good in (
        omega (arith, next_room here_alone, ap size_of (here_head said)),
        (
          omega (arith, r.fits, ap (λ (q : Paths). length (code q) + length (grown_in f q)) same, many, length-map path id_of),
          (omega (arith, rooted, kind_small path), omega (arith, many, grown.0.short, length-append path (f ∷ []))),
        ),
      )

  pub room_literal : (n : ℕ) → head_of (get_or words at 0) ≡ RecordHead n → Literal words at n f out to
  room_literal n said =
      let (fields, same, many) = record_of r.paths n (here_head said) in
      record {
        fields = fields;
        rest = r.rest;
        as_many = many;
        coded = rw same at r.coded;
        room = omega (arith, r.fits, ap (λ (q : Paths). length (code q)) same, from_few f fields);
      }

module _ (words out out' : List ℕ) (at f to : ℕ) (moved : Moved) where
  pub turned_empty :
      head_of (get_or words at 0) ≡ EmptyHead → TurnTook at (get_or words at 0 ∷ []) out to (get_or words at 0 ∷ []) out' moved
      → Turned words at f out to out' (Some moved)
  unfolding read_at written_for code
  turned_empty said took q rest e =
      let head : head_for q ≡ EmptyHead = sym (head_here words rest q at e) ∙ said in
      let word : get_or words at 0 ≡ 0 = word_here words rest q at e ∙ ap head_word head in
      rw (empty_of q head) (refl, rw word at took)

  pub turned_union :
      head_of (get_or words at 0) ≡ UnionHead → TurnTook at (get_or words at 0 ∷ []) out to (get_or words at 0 ∷ []) out' moved
      → Turned words at f out to out' (Some moved)
  unfolding read_at written_for
  turned_union said took q rest e =
      let head : head_for q ≡ UnionHead = sym (head_here words rest q at e) ∙ said in
      let word : get_or words at 0 ≡ 2 = word_here words rest q at e ∙ ap head_word head in
      let (left, right, same) = union-of q head in
      rw same (refl, rw word at took)

  pub turned_path :
      (kind n : ℕ) → head_of (get_or words at 0) ≡ PathHead kind n → Gained words at kind n f out to out' moved → Turned words at f out to out' (Some moved)
  unfolding read_at written_for
  turned_path kind n said gained q rest e =
      let (path, same, rooted, many) = path_of q kind n (sym (head_here words rest q at e) ∙ said) in
      rw same (refl, gained path rest rooted many (rw same at e))

  pub turned_record :
      (n : ℕ) → head_of (get_or words at 0) ≡ RecordHead n → FieldTaken words at n f out to out' moved → Turned words at f out to out' (Some moved)
  unfolding read_at written_for
  turned_record n said taken q rest e =
      let (fields, same, many) = record_of q n (sym (head_here words rest q at e) ∙ said) in
      rw same (refl, taken fields rest many (rw same at e))

pub turned_set : (words out out' : List ℕ) (at f to : ℕ) → head_of (get_or words at 0) ≡ SetHead → Turned words at f out to out' None
turned_set words out out' at f to said q rest e = ap is_set (set-of q (sym (head_here words rest q at e) ∙ said)).1

-- ---- along the unions

-- what is extended behind a head
abbrev spine : Paths → List Paths
spine Empty = []
spine (AccessPath path) = []
spine (Union left right) = right ∷ left ∷ []
spine (RecordLiteral fields) = []
spine (SetLiteral elements) = []

-- the words of what `attr` gives for several, and words in front of them
abbrev pub joined_codes : Option Paths → Option (List ℕ) → Option (List ℕ)
joined_codes none more = none
joined_codes (some q) none = none
joined_codes (some q) (some more) = some (code q ++ more)

unfoldable pub extended_codes : ℕ → List Paths → Option (List ℕ)
extended_codes f [] = some []
extended_codes f (q ∷ qs) = joined_codes (get_or_has_attr f q) (extended_codes f qs)

abbrev pub after_words : List ℕ → Option (List ℕ) → Option (List ℕ)
after_words words none = none
after_words words (some more) = some (words ++ more)

after_after : (xs ys : List ℕ) (o : Option (List ℕ)) → after_words xs (after_words ys o) ≡ after_words (xs ++ ys) o
after_after xs ys none = refl
after_after xs ys (some more) = rw append_assoc

joined_some : (q : Paths) (o : Option (List ℕ)) → joined_codes (some q) o ≡ after_words (code q) o
joined_some q none = refl
joined_some q (some more) = refl

joined_union :
    (x y : Option Paths) (o : Option (List ℕ))
    → joined_codes (x >>= (λ r. y >>= (λ l. some (Union l r)))) o ≡ after_words (head_word UnionHead ∷ []) (joined_codes x (joined_codes y o))
unfolding code
joined_union none y o = refl
joined_union (some r) none o = refl
joined_union (some r) (some l) none = refl
joined_union (some r) (some l) (some more) = ap (λ (ws : List ℕ). some (head_word UnionHead ∷ ws)) (append_assoc (code r) (code l) more)

-- what a turn writes stands in front of what is left
attr_turn : (f : ℕ) (q : Paths) (qs : List Paths) → is_set q ≡ false → extended_codes f (q ∷ qs) ≡ after_words (written_for f q) (extended_codes f (spine q ++ qs))
unfolding extended_codes written_for get_or_has_attr
attr_turn f Empty qs h = joined_some Empty (extended_codes f qs)
attr_turn f (AccessPath path) qs h = joined_some (AccessPath (path ++ (f ∷ []))) (extended_codes f qs)
attr_turn f (Union left right) qs h = joined_union (get_or_has_attr f right) (get_or_has_attr f left) (extended_codes f qs)
attr_turn f (RecordLiteral fields) qs h = joined_some (field_from f fields) (extended_codes f qs)
attr_turn f (SetLiteral elements) qs h = absurd (true≢false h)

attr_set : (f : ℕ) (q : Paths) (qs : List Paths) → is_set q ≡ true → extended_codes f (q ∷ qs) ≡ none
unfolding extended_codes get_or_has_attr
attr_set f Empty qs h = absurd (false≢true h)
attr_set f (AccessPath path) qs h = absurd (false≢true h)
attr_set f (Union left right) qs h = absurd (false≢true h)
attr_set f (RecordLiteral fields) qs h = absurd (false≢true h)
attr_set f (SetLiteral elements) qs h = refl

-- the paths that gain the field
unfoldable pub grown_in_all : ℕ → List Paths → List Path
grown_in_all f [] = []
grown_in_all f (q ∷ qs) = grown_in f q ++ grown_in_all f qs

abbrev own_grown : ℕ → Paths → List Path
own_grown f Empty = []
own_grown f (AccessPath path) = (path ++ (f ∷ [])) ∷ []
own_grown f (Union left right) = []
own_grown f (RecordLiteral fields) = []
own_grown f (SetLiteral elements) = []

grown_turn : (f : ℕ) (q : Paths) (qs : List Paths) → grown_in_all f (q ∷ qs) ≡ own_grown f q ++ grown_in_all f (spine q ++ qs)
unfolding grown_in_all grown_in
grown_turn f Empty qs = refl
grown_turn f (AccessPath path) qs = refl
grown_turn f (Union left right) qs = append_assoc (grown_in f right) (grown_in f left) (grown_in_all f qs)
grown_turn f (RecordLiteral fields) qs = refl
grown_turn f (SetLiteral elements) qs = refl

-- what was written stays as it is where more is written behind it
path_more : (words more : List ℕ) (at : ℕ) → at + 1 + get_or words at 0 / 64 ≤ length words → get_or (words ++ more) at 0 ≡ get_or words at 0
path_more words more at h = get_or-append words more 0 at (omega arith)

within_more : (words more ps : List ℕ) → AllWithin words ps → AllWithin (words ++ more) ps
unfolding AllWithin
within_more words more [] h = tt
within_more words more (p ∷ ps) h =
    (rw (path_more words more p h.0) (omega (arith, h.0, length-append words more)), within_more words more ps h.1)

paths_more : (words more ps : List ℕ) → AllWithin words ps → paths_at (words ++ more) ps ≡ paths_at words ps
unfolding AllWithin paths_at path_at
paths_more words more [] h = refl
paths_more words more (p ∷ ps) h =
    let inside : p + 1 ≤ length words = omega (arith, h.0) in
    let short : get_or words p 0 / 64 ≤ length (drop (p + 1) words) = omega (arith, h.0, length-drop (p + 1) words) in
    rw (paths_more words more ps h.1, path_more words more p h.0, drop-append-le (p + 1) words more inside, take-append-le (get_or words p 0 / 64) (drop (p + 1) words) more short)

-- the path that was grown stands at its place
grown_there : (f : ℕ) (words : List ℕ) (q : Paths) → Each IsGrown (own_grown f q) → paths_at (words ++ written_for f q) (places_for (head_for q) (length words)) ≡ own_grown f q
unfolding paths_at path_at written_for code Each
grown_there f words Empty good = refl
grown_there f words (AccessPath path) good =
    let grown = path ++ (f ∷ []) in
    let word : ℕ = head_word (PathHead (root_kind grown) (length grown)) in
    let steps : word / 64 ≡ length grown = omega (arith, kind_small grown) in
    let kind : word / 8 % 8 ≡ root_kind grown = omega (arith, kind_small grown) in
    rw (
      get_or-append_seam words word (map id_of grown) 0,
      steps,
      kind,
      drop-append-add words (word ∷ map id_of grown) 1,
      take_all (length grown) (map id_of grown) (omega (arith, length-map grown id_of)),
      path_back grown good.0.steps,
    )
grown_there f words (Union left right) good = refl
grown_there f words (RecordLiteral fields) good = refl
grown_there f words (SetLiteral elements) good = refl

grown_within : (f : ℕ) (words : List ℕ) (q : Paths) → AllWithin (words ++ written_for f q) (places_for (head_for q) (length words))
unfolding AllWithin written_for code
grown_within f words Empty = tt
grown_within f words (AccessPath path) =
    let grown = path ++ (f ∷ []) in
    let word : ℕ = head_word (PathHead (root_kind grown) (length grown)) in (
      rw (get_or-append_seam words word (map id_of grown) 0)
          (omega (arith, kind_small grown, length-map grown id_of, length-append words (word ∷ map id_of grown))),
      tt,
    )
grown_within f words (Union left right) = tt
grown_within f words (RecordLiteral fields) = tt
grown_within f words (SetLiteral elements) = tt

-- room enough
written_few : (f : ℕ) (q : Paths) → length (written_for f q) + length (codes (spine q)) ≤ length (code q) + length (own_grown f q)
unfolding written_for codes code
written_few f Empty = omega arith
written_few f (AccessPath path) =
    omega (arith, length-append path (f ∷ []), length-map path id_of, length-map (path ++ (f ∷ [])) id_of)
written_few f (Union left right) = rw append-nil (omega arith)
written_few f (RecordLiteral fields) = omega (arith, from_few f fields)
written_few f (SetLiteral elements) = omega arith

spine_nodes : (q : Paths) (qs : List Paths) → suc (nodes_of_all (spine q ++ qs)) ≤ nodes_of_all (q ∷ qs)
unfolding nodes_of_all nodes_of
spine_nodes Empty qs = omega arith
spine_nodes (AccessPath path) qs = omega arith
spine_nodes (Union left right) qs = omega arith
spine_nodes (RecordLiteral fields) qs = omega arith
spine_nodes (SetLiteral elements) qs = omega arith

-- a turn reads its words
read_split : (q : Paths) → is_set q ≡ false → code q ≡ read_at q ++ codes (spine q)
unfolding read_at codes code
read_split Empty h = refl
read_split (AccessPath path) h = rw append-nil
read_split (Union left right) h = rw append-nil
read_split (RecordLiteral fields) h = rw append-nil
read_split (SetLiteral elements) h = absurd (true≢false h)

read_some : (q : Paths) → is_set q ≡ false → 0 < length (read_at q)
unfolding read_at code
read_some Empty h = omega arith
read_some (AccessPath path) h = omega arith
read_some (Union left right) h = omega arith
read_some (RecordLiteral fields) h = omega arith
read_some (SetLiteral elements) h = absurd (true≢false h)

spine_many : (q : Paths) → length (spine q) ≡ sides_of (head_for q)
spine_many Empty = refl
spine_many (AccessPath path) = refl
spine_many (Union left right) = refl
spine_many (RecordLiteral fields) = refl
spine_many (SetLiteral elements) = refl

ahead_turn :
    {words rest : List ℕ} {q : Paths} {qs : List Paths} {from left : ℕ} (from' : ℕ)
    → Ahead words rest (q ∷ qs) from left → is_set q ≡ false → from' ≡ from + length (read_at q)
    → Ahead words rest (spine q ++ qs) from' (left - 1 + sides_of (head_for q))
unfolding codes
ahead_turn {words} {rest} {q} {qs} {from} {left} from' a h e = record {
  as_many = omega (arith, length-append (spine q) qs, spine_many q, a.as_many);
  coded =
      rw e
      (behind_it words (read_at q) (codes (spine q ++ qs) ++ rest) from
      (a.coded ∙ rw (read_split q h, codes_append (spine q) qs) (simp append_assoc)));
}

-- what is written behind what was written
put_behind : (out v : List ℕ) (to : ℕ) → to + length v ≤ length out → take (to + length v) (sets out to v) ≡ take to out ++ v
put_behind out v to h =
    let front : length (take to out) ≡ to = length-take-le to out (omega arith) in
    let all : length (take to out ++ v) ≡ to + length v = length-append (take to out) v ∙ rw front in
    rw (sets-eq v out to h) (take_at (take to out ++ v) (drop (to + length v) out) (to + length v) all)

-- ---- all turns

-- what was written and noted, and what is left
pub record ExtendingPaths (words rest : List ℕ) (f : ℕ) (paths : Paths) (out places : List ℕ) (from to left grown : ℕ) : Type 0 where
  pub qs : List Paths
  pub ahead : Ahead words rest qs from left
  pub few : grown + nodes_of_all qs ≤ nodes_of paths
  pub room : to + (length (codes qs) + length (grown_in_all f qs)) ≤ length (code paths) + length (grown_in f paths)
  pub in_out : to ≤ length out
  pub written : extended_codes f (paths ∷ []) ≡ after_words (take to out) (extended_codes f qs)
  pub in_places : grown ≤ length places
  pub within : AllWithin (take to out) (take grown places)
  pub there : paths_at (take to out) (take grown places) ++ grown_in_all f qs ≡ grown_in f paths
  pub good : Each IsGrown (grown_in f paths)

-- whatever stands there
abbrev pub Extending : List ℕ → ℕ → ℕ → List ℕ → List ℕ → ℕ → ℕ → ℕ → ℕ → Type 0
Extending words at f out places from to left grown =
    (paths : Paths) (rest : List ℕ)
    → drop at words ≡ code paths ++ rest
    → Each IsGrown (grown_in f paths)
    → ExtendingPaths words rest f paths out places from to left grown

after_nothing : (o : Option (List ℕ)) → after_words [] o ≡ o
after_nothing none = refl
after_nothing (some more) = refl

pub extending_first : (words out places : List ℕ) (at f : ℕ) → Extending words at f out places at 0 1 0
unfolding nodes_of_all paths_at AllWithin codes grown_in_all
extending_first words out places at f paths rest e good = record {
  qs = paths ∷ [];
  ahead = stands_alone words rest paths at e;
  few = omega arith;
  room = rw (append-nil (code paths), append-nil (grown_in f paths)) (omega arith);
  in_out = omega arith;
  written = sym (after_nothing (extended_codes f (paths ∷ [])));
  in_places = omega arith;
  within = tt;
  there = rw append-nil;
  good = good;
}

-- what `attr` gives for one is what the codes say
joined_done : (o : Option Paths) (ws : List ℕ) → joined_codes o (some []) ≡ some ws → (q : Paths) × (o ≡ some q) × (ws ≡ code q)
joined_done none ws e = absurd (let z : ◌≡◌ {A = ℕ} 0 1 = cc in omega arith)
joined_done (some q) ws e = let same : code q ++ [] ≡ ws = cc in (q, refl, sym same ∙ append-nil (code q))

joined_refused : (o : Option Paths) → joined_codes o (some []) ≡ none → o ≡ none
joined_refused none e = refl
joined_refused (some q) e = cc

module _ {words rest out places : List ℕ} {f : ℕ} {paths : Paths} {from to left grown : ℕ} (g : ExtendingPaths words rest f paths out places from to left grown) where
  pub going_few : left ≤ length words
  going_few =
      omega (arith, g.ahead.as_many, many_nodes g.qs, many_words g.qs, stands_short words (codes g.qs) rest from g.ahead.coded)

  -- nothing is left
  pub extending_done : left ≤ 0 → Grew f paths out places to grown
  unfolding extended_codes grown_in_all
  extending_done none_left =
      let (a, b) = last g.qs g.ahead.as_many g.written g.there in
      let (q, given, same) = joined_done (get_or_has_attr f paths) (take to out) a in
      record {
        after = q;
        extended = given;
        in_out = g.in_out;
        few_words = omega (arith, g.room);
        coded = same;
        in_places = g.in_places;
        within = rw (take-append-drop to out) at (within_more (take to out) (drop to out) (take grown places) g.within);
        there = rw (take-append-drop to out) at (paths_more (take to out) (drop to out) (take grown places) g.within) ∙ b;
      }
    where
      last :
          (qs : List Paths) → length qs ≡ left → extended_codes f (paths ∷ []) ≡ after_words (take to out) (extended_codes f qs)
          → paths_at (take to out) (take grown places) ++ grown_in_all f qs ≡ grown_in f paths
          → (extended_codes f (paths ∷ []) ≡ some (take to out)) × (paths_at (take to out) (take grown places) ≡ grown_in f paths)
      last [] many a b = (a ∙ rw append-nil, rw append-nil at b)
      last (q ∷ qs) many a b = absurd (omega arith)

  -- the paths that gain the field in what is left
  ahead_grown : (q : Paths) (more : List Paths) → g.qs ≡ q ∷ more → Each IsGrown (grown_in_all f (q ∷ more))
  ahead_grown q more same =
      rw same at (each_split IsGrown (paths_at (take to out) (take grown places)) (grown_in_all f g.qs) (rw g.there g.good)).1

  -- the words of what is left, from turn to turn
  ahead_words :
      (q : Paths) (more : List Paths)
      → g.qs ≡ q ∷ more
      → length (codes g.qs) + length (grown_in_all f g.qs)
      ≡ length (code q) + length (codes more) + (length (own_grown f q) + length (grown_in_all f (spine q ++ more)))
  unfolding codes
  ahead_words q more same =
      rw (same, length-append (code q) (codes more), grown_turn f q more, length-append (own_grown f q) (grown_in_all f (spine q ++ more)))

  going_step :
      (q : Paths) (more : List Paths) {out' places' : List ℕ} {from' to' grown' : ℕ} {h : WrappedAccessPaths}
      → g.qs ≡ q ∷ more → Ahead words rest (q ∷ more) from left → is_set q ≡ false → from' ≡ from + length (read_at q)
      → Wrote out to (written_for f q) out' to' → to' ≤ length out → h ≡ head_for q → Noted places grown (places_for h to) places' grown'
      → ExtendingPaths words rest f paths out' places' from' to' (left - 1 + sides_of h) grown'
  unfolding nodes_of_all
  going_step q more {out'} {places'} {from'} {to'} {grown'} {h} same a goes next wrote fits head n =
      let v = written_for f q in
      let w = take to out in
      let here = places_for (head_for q) to in
      let noted : take grown' places' ≡ take grown places ++ here =
      n.there ∙ ap (λ (h : WrappedAccessPaths). take grown places ++ places_for h to) head in
      let put : take to' out' ≡ w ++ v = rw (wrote.after, wrote.text) (put_behind out v to (omega (arith, wrote.after))) in
      let front : length w ≡ to = length-take-le to out g.in_out in
      let own : Each IsGrown (own_grown f q) =
      (each_split IsGrown (own_grown f q) (grown_in_all f (spine q ++ more)) (rw (grown_turn f q more) at (ahead_grown q more same))).0 in
      record {
        qs = spine q ++ more;
        ahead = rw head (ahead_turn from' a goes next);
        few =
            omega
            (arith, g.few, spine_nodes q more, ap nodes_of_all same, ap length noted, length-append (take grown places) here, length-take-le grown' places' n.in_places, length-take-le grown places g.in_places, places_few (head_for q) to);
        room =
            omega (
              arith,
              wrote.after,
              written_few f q,
              g.room,
              ahead_words q more same,
              ap length (codes_append (spine q) more),
              length-append (codes (spine q)) (codes more),
            );
        in_out = omega (arith, ap length wrote.text, length-sets out to v);
        written =
            g.written ∙ rw (same, attr_turn f q more goes, put) (after_after w v (extended_codes f (spine q ++ more)));
        in_places = n.in_places;
        within =
            rw (put, noted)
            (within_append (w ++ v) (take grown places) here (within_more w v (take grown places) g.within) (rw front at (grown_within f w q)));
        there =
            rw (put, noted, paths_at_append (w ++ v) (take grown places) here, paths_more w v (take grown places) g.within)
            (rw (rw front at (grown_there f w q own), append_assoc, ← grown_turn f q more, ← same) g.there);
        good = g.good;
      }

  module _ (some_left : 0 < left) where
    going_next : (q : Paths) × (more : List Paths) × (g.qs ≡ q ∷ more)
    going_next = next_of g.qs g.ahead.as_many some_left

    going_ahead : Ahead words rest (going_next.0 ∷ going_next.1) from left
    going_ahead = rw going_next.2 at g.ahead

    next_coded : drop from words ≡ code going_next.0 ++ (codes going_next.1 ++ rest)
    unfolding codes
    next_coded = going_ahead.coded ∙ append_assoc (code going_next.0) (codes going_next.1) rest

    pub going_within : from < length words
    going_within = next_within going_ahead

    pub going_more : grown < nodes_of paths
    going_more = omega (arith, g.few, g.ahead.as_many, many_nodes g.qs)

    -- a set is dereferenced
    pub going_refused : (out' : List ℕ) → Turned words from f out to out' None → get_or_has_attr f paths ≡ none
    unfolding extended_codes
    going_refused out' t =
        let (q, more, same) = going_next in
        joined_refused (get_or_has_attr f paths)
        (g.written ∙ rw (same, attr_set f q more (t q (codes more ++ rest) next_coded)))

    -- there is room for the next
    module _ (large : length (code paths) + length (grown_in f paths) ≤ length out) where
      pub going_room : TurnRoom words from f out to
      unfolding codes grown_in_all
      going_room =
          let (q, more, same) = going_next in
          record {
            paths = q;
            rest = codes more ++ rest;
            coded = next_coded;
            good = (each_split IsGrown (grown_in f q) (grown_in_all f more) (ahead_grown q more same)).0;
            fits =
                omega (
                  arith,
                  g.room,
                  ap (λ (qs : List Paths). length (codes qs)) same,
                  ap (λ (qs : List Paths). length (grown_in_all f qs)) same,
                  length-append (code q) (codes more),
                  length-append (grown_in f q) (grown_in_all f more),
                );
          }

      pub going_fits : {out' : List ℕ} {moved : Moved} → Turned words from f out to out' (Some moved) → moved.to ≤ length out
      going_fits t =
          let q = going_next.0 in
          let (goes, took) = t q (codes going_next.1 ++ rest) next_coded in
          omega (arith, took.wrote.after, written_few f q, g.room, ahead_words q going_next.1 going_next.2)

    -- a turn
    pub going_on : {out' : List ℕ} {moved : Moved} → Turned words from f out to out' (Some moved) → from < moved.from
    going_on t =
        let q = going_next.0 in
        let (goes, took) = t q (codes going_next.1 ++ rest) next_coded in
        omega (arith, took.next, read_some q goes)

    pub going_turn :
        {out' places' : List ℕ} {moved : Moved} {grown' : ℕ} {h : WrappedAccessPaths}
        → h ≡ head_of (get_or words from 0) → Turned words from f out to out' (Some moved) → moved.to ≤ length out
        → Noted places grown (places_for h to) places' grown'
        → ExtendingPaths words rest f paths out' places' moved.from moved.to (left - 1 + sides_of h) grown'
    going_turn said t fits n =
        let (q, more, same) = going_next in
        let (goes, took) = t q (codes more ++ rest) next_coded in
        going_step q more same going_ahead goes took.next took.wrote fits (said ∙ next_head going_ahead) n
