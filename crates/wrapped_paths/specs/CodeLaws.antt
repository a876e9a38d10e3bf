-- Laws of wrapped paths as words: what stands at a head, how far wrapped paths go, and what `attr` makes of them, head by head.
-- No contract cites this file.
use Rattle.std.specs.Prelude.{Option as Maybe, Some, None, Bool, true, false, cond, eqb, ℕ, suc, ◌+◌, ◌*◌, ◌-◌, ◌/◌, ◌%◌, ◌≤◌, ◌<◌, ◌≡◌, List, [], ◌∷◌, ◌++◌, map, take, drop, set}
use Rattle.std.proofs.Common.{add-zero, add_assoc, add-one, arith, ap, ◌∙◌, append_assoc, append-nil, length-append, length-drop, length-set, drop-drop, get_or-drop, take-suc-set, length-take-le}
use Rattle.std.proofs.Math.Path.{refl, sym}
use Rattle.std.proofs.Math.Dec.{ltb}
use Rattle.std.proofs.lemmas.Bool.{ltb-true, ltb-false}
use Rattle.std.proofs.lemmas.List.Recursion.{is_position_or_len}
use Rattle.std.specs.List.{position_or_len}
use Rattle.std.proofs.Math.Bool.{and-eq-true_iff}
use borrow.Author.Tests.{eq-eqb, ne_eqb, leb-true}
use Rattle.std.proofs.Math.ListN.{length, get_or}
use Rattle.std.proofs.lemmas.List.{length-map}
use Rattle.std.proofs.Math.Seq.{take-append_seam, drop-append_seam}
use Rattle.rules.specs.Tries.{kind_of, id_of, is_step}
use Rattle.rules.specs.Paths.{Path, Paths, Empty, AccessPath, Union, RecordLiteral, SetLiteral, Fields, no_field, field, nodes_of, nodes_of_fields, paths_in, paths_in_fields}
use Rattle.rules.proofs.StepLaws.{Each, Stepped, IsPath, AllPaths, each_split}
use Rattle.wrapped_paths.specs.declared.WrappedAccessPaths.{WrappedAccessPaths}
use Rattle.wrapped_paths.specs.declared.WrappedAccessPaths.TheVariants.{
  Empty as EmptyHead,
  AccessPath as PathHead,
  Union as UnionHead,
  RecordLiteral as RecordHead,
  SetLiteral as SetHead,
}
use Rattle.wrapped_paths.specs.Code.{head_of, head_word, size_of, wraps_of, count_in, names_in, root_kind, code, code_fields, codes, nodes_of_all, name_place, IsPlace, Measures, rooted, path_at, paths_at, AllWithin, FoundAt}
use Rattle.wrapped_paths.specs.Turns.{places_for, Noted}

-- ---- heads

module _ (w : ℕ) where
  pub head_empty : w % 8 ≡ 0 → head_of w ≡ EmptyHead
  unfolding head_of
  head_empty e = rw (eq-eqb (w % 8) 0 e)

  pub head_path : w % 8 ≡ 1 → head_of w ≡ PathHead (w / 8 % 8) (w / 64)
  unfolding head_of
  head_path e = rw (ne_eqb (w % 8) 0 (omega arith), eq-eqb (w % 8) 1 e)

  pub head_union : w % 8 ≡ 2 → head_of w ≡ UnionHead
  unfolding head_of
  head_union e = rw (ne_eqb (w % 8) 0 (omega arith), ne_eqb (w % 8) 1 (omega arith), eq-eqb (w % 8) 2 e)

  pub head_set : w % 8 ≡ 3 → head_of w ≡ SetHead
  unfolding head_of
  head_set e = rw (ne_eqb (w % 8) 0 (omega arith), ne_eqb (w % 8) 1 (omega arith), ne_eqb (w % 8) 2 (omega arith), eq-eqb (w % 8) 3 e)

  pub head_record : (w % 8 ≡ 0 → ⊥) → (w % 8 ≡ 1 → ⊥) → (w % 8 ≡ 2 → ⊥) → (w % 8 ≡ 3 → ⊥) → head_of w ≡ RecordHead (w / 64)
  unfolding head_of
  head_record a b c d = rw (ne_eqb (w % 8) 0 a, ne_eqb (w % 8) 1 b, ne_eqb (w % 8) 2 c, ne_eqb (w % 8) 3 d)

-- ---- a head, its steps or names, and what it wraps

unfoldable pub field_paths : Fields → List Paths
field_paths no_field = []
field_paths (field name paths fields) = paths ∷ field_paths fields

abbrev pub head_for : Paths → WrappedAccessPaths
head_for Empty = EmptyHead
head_for (AccessPath path) = PathHead (root_kind path) (length path)
head_for (Union left right) = UnionHead
head_for (RecordLiteral fields) = RecordHead (count_in fields)
head_for (SetLiteral elements) = SetHead

abbrev pub payload : Paths → List ℕ
payload Empty = []
payload (AccessPath path) = map id_of path
payload (Union left right) = []
payload (RecordLiteral fields) = names_in fields
payload (SetLiteral elements) = []

abbrev pub unwrapped : Paths → List Paths
unwrapped Empty = []
unwrapped (AccessPath path) = []
unwrapped (Union left right) = right ∷ left ∷ []
unwrapped (RecordLiteral fields) = field_paths fields
unwrapped (SetLiteral elements) = elements ∷ []

-- the path that it is, if any
abbrev pub own_path : Paths → List Path
own_path Empty = []
own_path (AccessPath path) = path ∷ []
own_path (Union left right) = []
own_path (RecordLiteral fields) = []
own_path (SetLiteral elements) = []

unfoldable pub paths_in_all : List Paths → List Path
paths_in_all [] = []
paths_in_all (paths ∷ more) = paths_in paths ++ paths_in_all more

-- ---- the ids of a path

-- a kind takes three bits
pub kind_small : (path : Path) → root_kind path < 8
kind_small [] = omega arith
kind_small (root ∷ fields) = omega arith

-- a field more leaves the kind, and is its own id
pub kind_grown : (path : Path) (f : ℕ) → f < 65536 → root_kind (path ++ (f ∷ [])) ≡ root_kind path
kind_grown [] f small = omega arith
kind_grown (root ∷ fields) f small = refl

pub ids_grown : (path : Path) (f : ℕ) → f < 65536 → map id_of (path ++ (f ∷ [])) ≡ map id_of path ++ (f ∷ [])
ids_grown [] f small = let same : id_of f ≡ f = omega arith in rw same
ids_grown (step ∷ path) f small = ap (λ (l : List ℕ). id_of step ∷ l) (ids_grown path f small)

-- fields are their ids
fields_same : (fields : List ℕ) → Each (λ f. f < 65536) fields → map id_of fields ≡ fields
unfolding Each
fields_same [] h = refl
fields_same (f ∷ fields) h =
    let same : id_of f ≡ f = omega (arith, h.0) in
    rw (same, fields_same fields h.1)

-- a path is read back from the kind of its root and its ids
pub path_back : (path : Path) → Stepped path → rooted (root_kind path) (map id_of path) ≡ path
unfolding Stepped
path_back [] h = absurd h
path_back (root ∷ fields) h =
    let small : kind_of root ≤ 5 = leb-true (kind_of root) 5 ((and-eq-true_iff _ _).0 ((and-eq-true_iff (is_step root) _).0 h.0).0).0 in
    let same : kind_of root % 8 * 65536 + id_of root ≡ root = omega arith in
    rw (same, fields_same fields h.1)

-- ---- what a head says

-- a word says the head that it is for
pub head-word : (q : Paths) → head_of (head_word (head_for q)) ≡ head_for q
head-word Empty = head_empty 0 refl
head-word (AccessPath path) =
    let w : ℕ = 1 + 8 * root_kind path + 64 * length path in
    let kind : w / 8 % 8 ≡ root_kind path = omega (arith, kind_small path) in
    let steps : w / 64 ≡ length path = omega (arith, kind_small path) in
    head_path w (omega arith) ∙ rw (kind, steps)
head-word (Union left right) = head_union 2 refl
head-word (RecordLiteral fields) =
    let w : ℕ = 4 + 64 * count_in fields in
    let e : w % 8 ≡ 4 = omega arith in
    head_record w (omega arith) (omega arith) (omega arith) (omega arith) ∙ ap RecordHead (omega arith)
head-word (SetLiteral elements) = head_set 3 refl

-- ---- counts and words

pub names_many : (fields : Fields) → length (names_in fields) ≡ count_in fields
unfolding names_in count_in
names_many no_field = refl
names_many (field name paths fields) = ap suc (names_many fields)

pub paths_within : (fields : Fields) → length (field_paths fields) ≡ count_in fields
unfolding field_paths count_in
paths_within no_field = refl
paths_within (field name paths fields) = ap suc (paths_within fields)

pub payload_many : (q : Paths) → length (payload q) ≡ size_of (head_for q)
payload_many Empty = refl
payload_many (AccessPath path) = length-map path id_of
payload_many (Union left right) = refl
payload_many (RecordLiteral fields) = names_many fields
payload_many (SetLiteral elements) = refl

pub unwrapped_many : (q : Paths) → length (unwrapped q) ≡ wraps_of (head_for q)
unwrapped_many Empty = refl
unwrapped_many (AccessPath path) = refl
unwrapped_many (Union left right) = refl
unwrapped_many (RecordLiteral fields) = paths_within fields
unwrapped_many (SetLiteral elements) = refl

pub codes_append : (ps qs : List Paths) → codes (ps ++ qs) ≡ codes ps ++ codes qs
unfolding codes
codes_append [] qs = refl
codes_append (p ∷ ps) qs = rw (codes_append ps qs, append_assoc)

nodes_append : (ps qs : List Paths) → nodes_of_all (ps ++ qs) ≡ nodes_of_all ps + nodes_of_all qs
unfolding nodes_of_all
nodes_append [] qs = omega arith
nodes_append (p ∷ ps) qs = rw (nodes_append ps qs) (omega arith)

pub paths_append : (ps qs : List Paths) → paths_in_all (ps ++ qs) ≡ paths_in_all ps ++ paths_in_all qs
unfolding paths_in_all
paths_append [] qs = refl
paths_append (p ∷ ps) qs = rw (paths_append ps qs, append_assoc)

pub codes_fields : (fields : Fields) → code_fields fields ≡ codes (field_paths fields)
unfolding codes field_paths code_fields
codes_fields no_field = refl
codes_fields (field name paths fields) = ap (λ (l : List ℕ). code paths ++ l) (codes_fields fields)

nodes_fields : (fields : Fields) → nodes_of_fields fields ≡ nodes_of_all (field_paths fields)
unfolding nodes_of_all field_paths nodes_of_fields
nodes_fields no_field = refl
nodes_fields (field name paths fields) = ap (λ (n : ℕ). nodes_of paths + n) (nodes_fields fields)

paths_fields : (fields : Fields) → paths_in_fields fields ≡ paths_in_all (field_paths fields)
unfolding paths_in_all field_paths paths_in_fields
paths_fields no_field = refl
paths_fields (field name paths fields) = ap (λ (l : List Path). paths_in paths ++ l) (paths_fields fields)

-- its words
pub code_turn : (q : Paths) → code q ≡ head_word (head_for q) ∷ (payload q ++ codes (unwrapped q))
unfolding code codes
code_turn Empty = refl
code_turn (AccessPath path) = rw append-nil
code_turn (Union left right) = rw append-nil
code_turn (RecordLiteral fields) = rw (codes_fields fields)
code_turn (SetLiteral elements) = rw append-nil

-- its path nodes, and the paths in it
pub nodes_turn : (q : Paths) → nodes_of q ≡ suc (nodes_of_all (unwrapped q))
unfolding nodes_of nodes_of_all
nodes_turn Empty = refl
nodes_turn (AccessPath path) = refl
nodes_turn (Union left right) = omega arith
nodes_turn (RecordLiteral fields) = ap suc (nodes_fields fields)
nodes_turn (SetLiteral elements) = omega arith

pub paths_turn : (q : Paths) → paths_in q ≡ own_path q ++ paths_in_all (unwrapped q)
unfolding paths_in paths_in_all
paths_turn Empty = refl
paths_turn (AccessPath path) = refl
paths_turn (Union left right) = rw append-nil
paths_turn (RecordLiteral fields) = paths_fields fields
paths_turn (SetLiteral elements) = rw append-nil

-- ---- counts

-- each wrapped paths have a node, and each node a word
pub many_nodes : (qs : List Paths) → length qs ≤ nodes_of_all qs
unfolding nodes_of_all
many_nodes [] = omega arith
many_nodes (q ∷ qs) = omega (arith, nodes_turn q, many_nodes qs)

mutual
  unfolding nodes_of code nodes_of_fields code_fields

  pub nodes_words : (q : Paths) → nodes_of q ≤ length (code q)
  nodes_words Empty = omega arith
  nodes_words (AccessPath path) = omega arith
  nodes_words (Union left right) = omega (arith, nodes_words left, nodes_words right, length-append (code right) (code left))
  nodes_words (RecordLiteral fields) = omega (arith, nodes_words_fields fields, length-append (names_in fields) (code_fields fields))
  nodes_words (SetLiteral elements) = omega (arith, nodes_words elements)

  nodes_words_fields : (fields : Fields) → nodes_of_fields fields ≤ length (code_fields fields)
  nodes_words_fields no_field = omega arith
  nodes_words_fields (field name paths fields) =
      omega (arith, nodes_words paths, nodes_words_fields fields, length-append (code paths) (code_fields fields))

pub many_words : (qs : List Paths) → nodes_of_all qs ≤ length (codes qs)
unfolding nodes_of_all codes
many_words [] = omega arith
many_words (q ∷ qs) = omega (arith, nodes_words q, many_words qs, length-append (code q) (codes qs))

-- what stands somewhere is no longer than the words
pub stands_short : (words xs rest : List ℕ) (at : ℕ) → drop at words ≡ xs ++ rest → length xs ≤ length words
stands_short words xs rest at e = omega (arith, ap length e, length-drop at words, length-append xs rest)

-- the word at a place, and what stands behind it
module _ (words : List ℕ) (at : ℕ) {w : ℕ} {xs : List ℕ} (e : drop at words ≡ w ∷ xs) where
  pub first_word : get_or words at 0 ≡ w
  first_word = sym (get_or-drop at words 0 0 ∙ rw add-zero) ∙ ap (λ (l : List ℕ). get_or l 0 0) e

  pub behind_word : drop (at + 1) words ≡ xs
  behind_word = sym (drop-drop 1 at words) ∙ ap (λ (l : List ℕ). drop 1 l) e

-- ---- what is ahead

-- so many wrapped paths stand ahead
pub record Ahead (words rest : List ℕ) (qs : List Paths) (from left : ℕ) : Type 0 where
  pub as_many : length qs ≡ left
  pub coded : drop from words ≡ codes qs ++ rest

-- where some are left, there is a next
pub next_of : {A : Type 0} (xs : List A) {n : ℕ} → length xs ≡ n → 0 < n → (x : A) × (more : List A) × (xs ≡ x ∷ more)
next_of [] e h = absurd (omega arith)
next_of (x ∷ more) e h = (x, more, refl)

module _ {words rest : List ℕ} {q : Paths} {qs : List Paths} {from left : ℕ} (a : Ahead words rest (q ∷ qs) from left) where
  -- the words of the next, one by one
  opened : drop from words ≡ head_word (head_for q) ∷ (payload q ++ (codes (unwrapped q ++ qs) ++ rest))
  unfolding codes
  opened = a.coded ∙ rw (code_turn q, codes_append (unwrapped q) qs) (simp append_assoc)

  opened_length : length words - from ≡ suc (size_of (head_for q) + (length (codes (unwrapped q ++ qs)) + length rest))
  opened_length =
      sym (length-drop from words) ∙ ap length opened
      ∙ ap suc (length-append (payload q) (codes (unwrapped q ++ qs) ++ rest) ∙ rw (payload_many q, length-append (codes (unwrapped q ++ qs)) rest))

  pub next_within : from < length words
  next_within = omega (arith, opened_length)

  pub next_room : from + (1 + size_of (head_for q)) ≤ length words
  next_room = omega (arith, opened_length)

  pub next_head_word : get_or words from 0 ≡ head_word (head_for q)
  next_head_word = first_word words from opened

  pub next_head : head_of (get_or words from 0) ≡ head_for q
  next_head = ap head_of next_head_word ∙ head-word q

  behind : drop (from + 1) words ≡ payload q ++ (codes (unwrapped q ++ qs) ++ rest)
  behind = behind_word words from opened

  pub next_payload : take (size_of (head_for q)) (drop (from + 1) words) ≡ payload q
  next_payload = rw (behind, ← payload_many q) (take-append_seam (payload q) (codes (unwrapped q ++ qs) ++ rest))

  pub next_ahead : drop (from + (1 + size_of (head_for q))) words ≡ codes (unwrapped q ++ qs) ++ rest
  next_ahead =
      ap (λ (n : ℕ). drop n words) (sym (add_assoc from 1 (size_of (head_for q)))) ∙ sym (drop-drop (size_of (head_for q)) (from + 1) words)
      ∙ rw (behind, ← payload_many q) (drop-append_seam (payload q) (codes (unwrapped q ++ qs) ++ rest))

-- a head fewer, and its words
pub nodes_next : (q : Paths) (qs : List Paths) → nodes_of_all (q ∷ qs) ≡ suc (nodes_of_all (unwrapped q ++ qs))
unfolding nodes_of_all
nodes_next q qs = omega (arith, nodes_turn q, nodes_append (unwrapped q) qs)

pub words_next : (q : Paths) (qs : List Paths) → length (codes (q ∷ qs)) ≡ 1 + size_of (head_for q) + length (codes (unwrapped q ++ qs))
unfolding codes
words_next q qs =
    rw (code_turn q, codes_append (unwrapped q) qs)
    (simp length-append (omega (arith, payload_many q)))

pub paths_next : (q : Paths) (qs : List Paths) → paths_in_all (q ∷ qs) ≡ own_path q ++ paths_in_all (unwrapped q ++ qs)
unfolding paths_in_all
paths_next q qs = rw (paths_turn q, paths_append (unwrapped q) qs, append_assoc)

-- the next head is passed: what it wraps comes next
pub ahead_next :
    {words rest : List ℕ} {q : Paths} {qs : List Paths} {from left : ℕ} {h : WrappedAccessPaths}
    → Ahead words rest (q ∷ qs) from left
    → h ≡ head_of (get_or words from 0)
    → Ahead words rest (unwrapped q ++ qs) (from + (1 + size_of h)) (left - 1 + wraps_of h)
ahead_next {q} {qs} a e =
    let same = e ∙ next_head a in
    record {
      as_many = rw same (omega (arith, length-append (unwrapped q) qs, unwrapped_many q, a.as_many));
      coded = rw same (next_ahead a);
    }

-- ---- measuring

-- what is left of wrapped paths that are measured
pub record HeadsLeft (words : List ℕ) (paths : List Paths) (rest : List ℕ) (at from left nodes : ℕ) : Type 0 where
  pub qs : List Paths
  pub ahead : Ahead words rest qs from left
  pub counted : nodes + nodes_of_all qs ≡ nodes_of_all paths
  pub placed : from + length (codes qs) ≡ at + length (codes paths)

-- whatever stands there
abbrev pub Measuring : List ℕ → ℕ → ℕ → ℕ → ℕ → ℕ → Type 0
Measuring words at count from left nodes =
    (paths : List Paths) (rest : List ℕ) → length paths ≡ count → drop at words ≡ codes paths ++ rest → HeadsLeft words paths rest at from left nodes

pub measuring_first : (words : List ℕ) (at count : ℕ) → Measuring words at count at count 0
measuring_first words at count paths rest many e =
    record { qs = paths; ahead = record { as_many = many; coded = e }; counted = omega arith; placed = refl }

pub measured : {words : List ℕ} {at count from left nodes : ℕ} → Measuring words at count from left nodes → left ≤ 0 → Measures words at count from nodes
unfolding nodes_of_all codes
measured {words} {at} {count} {from} {left} {nodes} m none_left paths rest many e =
    let l = m paths rest many e in
    go l.qs l.ahead.as_many l.counted l.placed
  where
    go :
        (qs : List Paths) → length qs ≡ left → nodes + nodes_of_all qs ≡ nodes_of_all paths → from + length (codes qs) ≡ at + length (codes paths)
        → (from ≡ at + length (codes paths)) × (nodes ≡ nodes_of_all paths)
    go [] a b c = (omega arith, omega arith)
    go (q ∷ qs) a b c = absurd (omega arith)

module _ {words rest : List ℕ} {paths : List Paths} {at from left nodes : ℕ} (l : HeadsLeft words paths rest at from left nodes) where
  pub left_few : left ≤ length words
  left_few =
      omega (arith, l.ahead.as_many, many_nodes l.qs, many_words l.qs, stands_short words (codes l.qs) rest from l.ahead.coded)

  pub nodes_few : drop at words ≡ codes paths ++ rest → nodes ≤ length words
  nodes_few e = omega (arith, l.counted, many_words paths, stands_short words (codes paths) rest at e)

  module _ (some_left : 0 < left) where
    next : (q : Paths) × (more : List Paths) × (l.qs ≡ q ∷ more)
    next = next_of l.qs l.ahead.as_many some_left

    now_ahead : Ahead words rest (next.0 ∷ next.1) from left
    now_ahead = rw next.2 at l.ahead

    pub left_within : from < length words
    left_within = next_within now_ahead

    module _ {h : WrappedAccessPaths} (said : h ≡ head_of (get_or words from 0)) where
      pub left_room : from + (1 + size_of h) ≤ length words
      left_room = rw (said ∙ next_head now_ahead) (next_room now_ahead)

      pub left_next : HeadsLeft words paths rest at (from + (1 + size_of h)) (left - 1 + wraps_of h) (nodes + 1)
      left_next =
          let (q, more, same) = next in
          let a = now_ahead in
          let head = said ∙ next_head a in
          record {
            qs = unwrapped q ++ more;
            ahead = ahead_next a said;
            counted = counts q more (ap nodes_of_all same);
            placed = rw head (places q more (ap (λ (l : List Paths). length (codes l)) same));
          }
        where
          counts : (q : Paths) (more : List Paths) → nodes_of_all l.qs ≡ nodes_of_all (q ∷ more) → nodes + 1 + nodes_of_all (unwrapped q ++ more) ≡ nodes_of_all paths
          counts q more e = omega (arith, l.counted, nodes_next q more, e)

          places :
              (q : Paths) (more : List Paths) → length (codes l.qs) ≡ length (codes (q ∷ more))
              → from + (1 + size_of (head_for q)) + length (codes (unwrapped q ++ more)) ≡ at + length (codes paths)
          places q more e = omega (arith, l.placed, words_next q more, e)

-- ---- names and copies

pub place_most : (names : List ℕ) (name : ℕ) → name_place names name ≤ length names
unfolding name_place
place_most [] name = omega arith
place_most (other ∷ names) name = go (eqb other name) (place_most names name)
  where
    go : (same : Bool) → name_place names name ≤ length names → cond same 0 (suc (name_place names name)) ≤ suc (length names)
    go true h = omega arith
    go false h = omega arith

-- the first place that a search of the names finds
place_first : (names : List ℕ) (name : ℕ) → name_place names name ≡ position_or_len (λ other. eqb other name) names
unfolding name_place
place_first names name = is_position_or_len (λ l. name_place l name) (λ other. eqb other name) refl (λ other l. ap (cond (eqb other name) 0) (omega arith)) names

place_in :
    (names : List ℕ) (name place : ℕ) (in_it : Bool) → name_place names name ≡ place → ltb place (length names) ≡ in_it
    → IsPlace names name (cond in_it (Some place) None)
place_in names name place true same h = (sym same, ltb-true place (length names) h)
place_in names name place false same h = omega (arith, ltb-false place (length names) h, place_most names name)

pub place_found :
    (names : List ℕ) (name : ℕ) (found : Maybe ℕ)
    → let place = position_or_len (λ other. eqb other name) names in
    found ≡ cond (ltb place (length names)) (Some place) None → IsPlace names name found
place_found names name found e =
    let place = position_or_len (λ other. eqb other name) names in
    rw e (place_in names name place (ltb place (length names)) (place_first names name) refl)

-- ---- noting paths

pub no_places : (head : WrappedAccessPaths) (at : ℕ) → ((kind steps : ℕ) → head ≡ PathHead kind steps → ⊥) → places_for head at ≡ []
no_places EmptyHead at other = refl
no_places (PathHead kind steps) at other = absurd (other kind steps refl)
no_places UnionHead at other = refl
no_places SetHead at other = refl
no_places (RecordHead fields) at other = refl

pub noted_none : (places : List ℕ) (count : ℕ) → count ≤ length places → Noted places count [] places count
noted_none places count h = record { in_places = h; there = rw append-nil }

pub noted_one : (places : List ℕ) (count at : ℕ) → count < length places → Noted places count (at ∷ []) (set places count at) (count + 1)
noted_one places count at h = record { in_places = simp length-set (omega arith); there = rw add-one (take-suc-set places count at h) }

pub paths_at_append : (words ps qs : List ℕ) → paths_at words (ps ++ qs) ≡ paths_at words ps ++ paths_at words qs
unfolding paths_at
paths_at_append words [] qs = refl
paths_at_append words (p ∷ ps) qs = rw (paths_at_append words ps qs)

pub within_append : (words ps qs : List ℕ) → AllWithin words ps → AllWithin words qs → AllWithin words (ps ++ qs)
unfolding AllWithin
within_append words [] qs h k = k
within_append words (p ∷ ps) qs h k = (h.0, within_append words ps qs h.1 k)

pub places_few : (h : WrappedAccessPaths) (at : ℕ) → length (places_for h at) ≤ 1
places_few EmptyHead at = omega arith
places_few (PathHead kind steps) at = omega arith
places_few UnionHead at = omega arith
places_few SetHead at = omega arith
places_few (RecordHead fields) at = omega arith

-- the path at the place of a head is its own
module _ {words rest : List ℕ} {qs : List Paths} {from left : ℕ} where
  pub path_there : (path : Path) → Stepped path → Ahead words rest (AccessPath path ∷ qs) from left → path_at words from ≡ path
  unfolding path_at
  path_there path stepped a =
      let steps : get_or words from 0 / 64 ≡ length path = omega (arith, next_head_word a, kind_small path) in
      let kind : get_or words from 0 / 8 % 8 ≡ root_kind path = omega (arith, next_head_word a, kind_small path) in
      rw (steps, kind, next_payload a, path_back path stepped)

  own-path : (q : Paths) → Each IsPath (own_path q) → Ahead words rest (q ∷ qs) from left → paths_at words (places_for (head_for q) from) ≡ own_path q
  unfolding paths_at Each
  own-path Empty good a = refl
  own-path (AccessPath path) good a = rw (path_there path good.0.steps a)
  own-path (Union l r) good a = refl
  own-path (RecordLiteral fields) good a = refl
  own-path (SetLiteral elements) good a = refl

  own_within : (q : Paths) → Ahead words rest (q ∷ qs) from left → AllWithin words (places_for (head_for q) from)
  unfolding AllWithin
  own_within Empty a = tt
  own_within (AccessPath path) a = (omega (arith, next_head_word a, next_room a, kind_small path), tt)
  own_within (Union l r) a = tt
  own_within (RecordLiteral fields) a = tt
  own_within (SetLiteral elements) a = tt

-- the paths that were noted, and what is left
pub record Seen (words rest : List ℕ) (paths : Paths) (places : List ℕ) (from left found : ℕ) : Type 0 where
  pub qs : List Paths
  pub ahead : Ahead words rest qs from left
  pub few : found + nodes_of_all qs ≤ nodes_of paths
  pub in_places : found ≤ length places
  pub within : AllWithin words (take found places)
  pub there : paths_at words (take found places) ++ paths_in_all qs ≡ paths_in paths
  pub good : AllPaths (paths_in paths)

-- whatever stands there
abbrev pub Searching : List ℕ → ℕ → List ℕ → ℕ → ℕ → ℕ → Type 0
Searching words at places from left found =
    (paths : Paths) (rest : List ℕ)
    → drop at words ≡ code paths ++ rest
    → AllPaths (paths_in paths)
    → Seen words rest paths places from left found

pub searching_first : (words places : List ℕ) (at : ℕ) → Searching words at places at 1 0
unfolding codes nodes_of_all paths_at AllWithin paths_in_all
searching_first words places at paths rest e good = record {
  qs = paths ∷ [];
  ahead = record { as_many = refl; coded = rw append-nil e };
  few = omega arith;
  in_places = omega arith;
  within = tt;
  there = rw append-nil;
  good = good;
}

pub name_searched : {words places : List ℕ} (at : ℕ) {from left found : ℕ} → Searching words at places from left found → left ≤ 0 → FoundAt words at places found
unfolding paths_in_all
name_searched {words} {places} at {from} {left} {found} m none_left paths rest e good =
    let s = m paths rest e good in
    record { in_places = s.in_places; within = s.within; there = go s.qs s.ahead.as_many s.there }
  where
    go : (qs : List Paths) → length qs ≡ left → paths_at words (take found places) ++ paths_in_all qs ≡ paths_in paths → paths_at words (take found places) ≡ paths_in paths
    go [] a b = rw append-nil at b
    go (q ∷ qs) a b = absurd (omega arith)

module _ {words rest places : List ℕ} {paths : Paths} {from left found : ℕ} (s : Seen words rest paths places from left found) where
  pub seen_few : left ≤ length words
  seen_few =
      omega (arith, s.ahead.as_many, many_nodes s.qs, many_words s.qs, stands_short words (codes s.qs) rest from s.ahead.coded)

  module _ (some_left : 0 < left) where
    upcoming : (q : Paths) × (more : List Paths) × (s.qs ≡ q ∷ more)
    upcoming = next_of s.qs s.ahead.as_many some_left

    upcoming_ahead : Ahead words rest (upcoming.0 ∷ upcoming.1) from left
    upcoming_ahead = rw upcoming.2 at s.ahead

    pub seen_within : from < length words
    seen_within = next_within upcoming_ahead

    pub seen_more : found < nodes_of paths
    seen_more = omega (arith, s.few, s.ahead.as_many, many_nodes s.qs)

    module _ {h : WrappedAccessPaths} (said : h ≡ head_of (get_or words from 0)) where
      pub seen_room : from + (1 + size_of h) ≤ length words
      seen_room = rw (said ∙ next_head upcoming_ahead) (next_room upcoming_ahead)

      pub seen_next :
          {places' : List ℕ} {found' : ℕ} → Noted places found (places_for h from) places' found'
          → Seen words rest paths places' (from + (1 + size_of h)) (left - 1 + wraps_of h) found'
      seen_next {places'} {found'} n =
          let (q, more, same) = upcoming in
          let a = upcoming_ahead in
          let head = said ∙ next_head a in
          let ahead : AllPaths (paths_in_all s.qs) = (each_split IsPath (paths_at words (take found places)) (paths_in_all s.qs) (rw s.there s.good)).1 in
          let own : Each IsPath (own_path q) = (each_split IsPath (own_path q) (paths_in_all (unwrapped q ++ more)) (rw (same, paths_next q more) at ahead)).0 in
          let noted : take found' places' ≡ take found places ++ places_for (head_for q) from = n.there ∙ ap (λ (h : WrappedAccessPaths). take found places ++ places_for h from) head in
          record {
            qs = unwrapped q ++ more;
            ahead = ahead_next a said;
            few =
                omega
                (arith, s.few, nodes_next q more, ap nodes_of_all same, ap length noted, length-append (take found places) (places_for (head_for q) from), length-take-le found' places' n.in_places, length-take-le found places s.in_places, places_few (head_for q) from);
            in_places = n.in_places;
            within = rw noted (within_append words (take found places) (places_for (head_for q) from) s.within (own_within q a));
            there =
                rw (noted, paths_at_append words (take found places) (places_for (head_for q) from), own-path q own a, append_assoc, ← paths_next q more, ← same)
                s.there;
            good = s.good;
          }
