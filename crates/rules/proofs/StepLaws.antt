-- Laws of the analysis steps (Steps): what holds of every result on the stack, what a step keeps, and what makes a trie too deep.
use Prim.Native.Nat.{ℕ, zero, suc, ◌+◌, ◌/◌, ◌≤◌, ◌<◌}
use Rattle.std.proofs.Common.{arith, sym, ap, ◌∙◌, subst, true≢false, length-append, get_or-append-add, take_all, ltb-false, leb-true, le-ltb, ne_eqb}
use Rattle.std.specs.Prelude.{◌≡◌, refl, Bool, true, false, cond, ◌&&◌, ◌||◌, leb, ltb, eqb, length, take, get_or}
use Rattle.std.proofs.Math.Bool.{and-eq-true_iff, or-true, or-false, or_assoc}
use mathlib.Core.List.{List, [], ◌∷◌, ◌++◌, map, append_assoc, append-nil}
use Rattle.std.proofs.Math.Option.{Option, none, some, none-ne-some, some-injective}
use Rattle.std.proofs.Math.Seq.{take-append-add, append_snoc}
use Rattle.std.proofs.lemmas.Bool.{eqb-false}
use Rattle.rules.specs.Numbers.{accepted, first_of, most_steps, answer_by}
use Rattle.rules.specs.Text.{bytes, decimal_of}
use Rattle.rules.proofs.TextLaws.{decimal_written}
use Rattle.rules.specs.Facts.{by_test, by_option, cond-true, cond-some, cond-none, accepted_same}
use Rattle.rules.specs.Tries.{Row, is_step, is_root, is_entry, kind_of, step_of, literals, at, ordered, contribution, union}
use Rattle.rules.proofs.TrieLaws.{Ordered, ordered_true, true_ordered, node_step, Turns, no_left, no_right, left, right, both as together, union_turns, bare, union_ordered, union_idempotent, union_commutative, union_associative, union_left_length}
use Rattle.rules.specs.Listing.{read, ◌>>=◌, place_in}
use Rattle.rules.proofs.ListingLaws.{bind_some, place_read, refused_not}
use Rattle.rules.proofs.TypeLaws.{deepest, path_deep, union_too_deep}
use Rattle.rules.specs.Schema.{
  Item,
  Known,
  unknown,
  set_type,
  record_type,
  attribute_line,
  last_type,
  fits,
  beyond,
  lawful_items,
  from_type,
  attributes_of,
  ascending,
}
use Rattle.rules.specs.Paths.{
  Path,
  Paths,
  Empty,
  AccessPath,
  Union,
  RecordLiteral,
  SetLiteral,
  Fields,
  no_field,
  field,
  Leaf,
  empty_leaf,
  paths_in,
  paths_in_fields,
  nodes_of,
  field_of,
  field_or,
  get_or_has_attr,
  deeper,
  chain,
  is_empty_leaf,
  to_root_access_trie_with_leaf,
  union_all,
  path_tries,
  add_paths,
  to_ancestor_access_trie,
  attributes_at,
  children_of,
  type_below,
  type_to_access_trie,
  Taken,
  kind_at,
  element_at,
  attribute_type,
  has_all,
  full_type_required,
  fields_required,
  taken_tries,
  add_taken,
}
use Rattle.rules.specs.Steps.{
  Result,
  result,
  from_root,
  default_result,
  restored,
  union_results,
  empty_paths,
  with_ancestors_required,
  in_result,
  Wrapped,
  wrapped,
  Step,
  root,
  none_line,
  attr,
  union_line,
  drop_line,
  full,
  in_line,
  set,
  rec,
  reversed,
  is_text,
  rec_of,
  bare_step,
  step_with,
  step_from,
  is_too_deep,
  most_results,
  most_path_nodes,
  judged,
  attr_step,
  rec_step,
  full_step,
  apply,
}
pub use Rattle.rules.specs.StepLaws.{IsPath, AllPaths, Plain, IsTrie, Absorbs, AllAbsorbed, GoodResult, AllGood, GoodStep, AllKeys, GoodSchema, GoodLeaf, Judged, Ended, LawfulLines, GoodWrapped}
unfoldable pub use Rattle.rules.specs.StepLaws.{Each, Stepped, Below, any_too_deep, grown_in, Nodes, StepsAt, Ascends}

-- The statements.

-- Facts on values that are given, on tests and on lists.

-- of two values one is given
cond_given :
    {A P : Type 0} (t : Bool) (o p : Option A) (a : A)
    → cond t o p ≡ some a
    → (o ≡ some a → P)
    → (p ≡ some a → P)
    → P
cond_given true o p a e first_then second-then = first_then e
cond_given false o p a e first_then second-then = second-then e

-- of two tests neither is true
pub or_neither : (a b : Bool) → (a || b) ≡ false → (a ≡ false) × (b ≡ false)
or_neither true b e = absurd (true≢false e)
or_neither false b e = (refl, e)

-- members of lists
module _ {A : Type 0} (P : A → Type 0) where
  pub each_append : (xs ys : List A) → Each P xs → Each P ys → Each P (xs ++ ys)
  unfolding Each
  each_append [] ys h k = k
  each_append (x ∷ xs) ys h k = (h.0, each_append xs ys h.1 k)

  pub each_split : (xs ys : List A) → Each P (xs ++ ys) → Each P xs × Each P ys
  unfolding Each
  each_split [] ys h = (tt, h)
  each_split (x ∷ xs) ys h = let (first, second) = each_split xs ys h.1 in ((h.0, first), second)

  pub each_then : (Q : A → Type 0) → ((a : A) → P a → Q a) → (xs : List A) → Each P xs → Each Q xs
  unfolding Each
  each_then Q then [] h = tt
  each_then Q then (x ∷ xs) h = (then x h.0, each_then Q then xs h.1)

  pub each_map : {B : Type 0} (Q : B → Type 0) (f : A → B) → ((a : A) → P a → Q (f a)) → (xs : List A) → Each P xs → Each Q (map f xs)
  unfolding Each
  each_map Q f then [] h = tt
  each_map Q f then (x ∷ xs) h = (then x h.0, each_map Q f then xs h.1)

  pub each_at : (xs : List A) (i : ℕ) (d : A) → Each P xs → i < length xs → P (get_or xs i d)
  unfolding Each
  each_at [] i d h less = absurd (omega arith)
  each_at (x ∷ xs) zero d h less = h.0
  each_at (x ∷ xs) (suc i) d h less = each_at xs i d h.1 (omega arith)

-- A line's step.

reversed_each : (P : ℕ → Type 0) (xs : List ℕ) → Each P xs → Each P (reversed xs)
unfolding Each
reversed_each P [] h = tt
reversed_each P (x ∷ xs) h = each_append P (reversed xs) (x ∷ []) (reversed_each P xs h.1) (h.0, tt)

-- a good step that is given is the good step
step_given : (a step : Step) → GoodStep a → some a ≡ some step → GoodStep step
step_given a step h e = rw (some-injective a step e) at h

-- so it is with a line of one word, of names, and of a word and a field
bare_good : (word : List ℕ) (step : Step) → bare_step word ≡ some step → GoodStep step
unfolding Each
bare_good word step e =
    cond_given (is_text (bytes "none") word) (some none_line) _ step e (step_given none_line step tt) λ e.
    cond_given (is_text (bytes "union") word) (some union_line) _ step e (step_given union_line step tt) λ e.
    cond_given (is_text (bytes "drop") word) (some drop_line) _ step e (step_given drop_line step tt) λ e.
    cond_given (is_text (bytes "in") word) (some in_line) _ step e (step_given in_line step tt) λ e.
    cond_given (is_text (bytes "set") word) (some set) _ step e (step_given set step tt) λ e.
    cond_given (is_text (bytes "rec") word) (some (rec [])) _ step e (step_given (rec []) step tt) λ e.
    absurd (none-ne-some step e)

-- decimals are fields
ascending_fields : (least : ℕ) (names : List (List ℕ)) (ns : List ℕ) → ascending least names ≡ some ns → Each (λ f. f < 65536) ns
unfolding ascending Each
ascending_fields least [] ns e = rw (← some-injective [] ns e) tt
ascending_fields least (name ∷ names) ns e =
    bind_some (decimal_of name) _ ns e λ n number e.
    bind_some (cond (leb least n) (ascending (n + 1) names) none) _ ns e λ more ascend e.
    cond_given (leb least n) _ none more ascend
    (λ ascend. rw (← some-injective (n ∷ more) ns e) (omega (arith, (decimal_written name n number).1), ascending_fields (n + 1) names more ascend))
    λ ascend. absurd (none-ne-some more ascend)

rec_good : (names : List (List ℕ)) (step : Step) → rec_of names ≡ some step → GoodStep step
rec_good names step e =
    bind_some (ascending 0 names) _ step e λ ns ascend e.
    cond_given (leb (length ns) 32) (some (rec (reversed ns))) _ step e
    (step_given (rec (reversed ns)) step (reversed_each (λ f. f < 65536) ns (ascending_fields 0 names ns ascend))) λ e.
    absurd (none-ne-some step e)

-- `p a r c` are roots, and so is a literal entity
variable_root : (kind : ℕ) → kind < 4 → is_root (step_of (suc kind) 0) ≡ true
variable_root zero h = refl
variable_root (suc zero) h = refl
variable_root (suc (suc zero)) h = refl
variable_root (suc (suc (suc zero))) h = refl
variable_root (suc (suc (suc (suc kind)))) h = absurd (omega arith)

literal_root : (id : ℕ) → id ≤ 65535 → is_root (step_of literals id) ≡ true
literal_root id h = let kind : step_of literals id / 65536 ≡ 5 = omega arith in simp (kind, or-true)

with_good : (word name : List ℕ) (step : Step) → step_with word name ≡ some step → GoodStep step
with_good word name step e =
    cond_given (is_text (bytes "var") word) _ _ step e
    (λ e.
    bind_some (place_in (bytes "parc") name) _ step e λ kind at-kind e.
    step_given (root (step_of (suc kind) 0)) step (variable_root kind (place_read (bytes "parc") name kind at-kind).0) e)
    λ e.
    cond_given (is_text (bytes "lit") word) _ _ step e
    (λ e.
    bind_some (decimal_of name) _ step e λ id number e.
    step_given (root (step_of literals id)) step (literal_root id (decimal_written name id number).1) e)
    λ e.
    cond_given (is_text (bytes "attr") word) _ _ step e
    (λ e.
    bind_some (decimal_of name) _ step e λ f number e.
    step_given (attr f) step (omega (arith, (decimal_written name f number).1)) e)
    λ e.
    cond_given (is_text (bytes "full") word) _ _ step e
    (λ e. bind_some (decimal_of name) _ step e λ t number e. step_given (full t) step tt e)
    λ e.
    cond_given (is_text (bytes "rec") word) _ _ step e (rec_good (name ∷ []) step) λ e.
    absurd (none-ne-some step e)

-- The step of a line names roots and fields.
pub step_good : (fields : List (List ℕ)) (step : Step) → step_from fields ≡ some step → GoodStep step
unfolding step_from
step_good [] step e = absurd (none-ne-some step e)
step_good (word ∷ []) step e = bare_good word step e
step_good (word ∷ name ∷ []) step e = with_good word name step e
step_good (word ∷ name ∷ more ∷ names) step e =
    cond_given (is_text (bytes "rec") word) _ _ step e (rec_good (name ∷ more ∷ names) step) λ e. absurd (none-ne-some step e)

-- What is too deep.

-- Tries that are added to one take no row from it, and what comes of it is too deep exactly where one of them is.
pub all_length : (trie : List Row) (tries : List (List Row)) → length trie ≤ length (union_all trie tries)
unfolding union_all
all_length trie [] = omega arith
all_length trie (more ∷ tries) = omega (arith, union_left_length trie more, all_length (union trie more) tries)

pub all_deep : (trie : List Row) (tries : List (List Row)) → is_too_deep (union_all trie tries) ≡ (is_too_deep trie || any_too_deep tries)
unfolding union_all any_too_deep
all_deep trie [] = rw or-false
all_deep trie (more ∷ tries) =
    rw (all_deep (union trie more) tries, union_too_deep trie more) (or_assoc (is_too_deep trie) (is_too_deep more) (any_too_deep tries))

-- Unions of tries.

-- turn by turn, untyped nodes give untyped nodes
pub turns_plain : {a b c : List Row} → Turns a b c → Each Plain a → Each Plain b → Each Plain c
unfolding Each
turns_plain no_left pa pb = pb
turns_plain no_right pa pb = pa
turns_plain (left h more) pa pb = (pa.0, turns_plain more pa.1 pb)
turns_plain (right h more) pa pb = (pb.0, turns_plain more pa pb.1)
turns_plain (together h more) pa pb = (record { node = pa.0.node; untyped = pa.0.untyped }, turns_plain more pa.1 pb.1)

-- the run of no nodes is a trie, and a union of tries is one
pub empty_trie : IsTrie []
unfolding ordered Each
empty_trie = record { order = refl; plain = tt }

pub union_trie : (a b : List Row) → IsTrie a → IsTrie b → IsTrie (union a b)
union_trie a b ta tb = record {
  order = union_ordered a (0 ∷ []) b ta.order tb.order;
  plain = turns_plain (union_turns a b) ta.plain tb.plain;
}

-- tries that are the same but for types are the same
pub bare_plain : (rows : List Row) → Each Plain rows → map bare rows ≡ rows
unfolding Each
bare_plain [] h = refl
bare_plain (row ∷ rows) h =
    λ i. record { depth = row.depth; step = row.step; mark = row.mark; type = sym h.0.untyped i } ∷ bare_plain rows h.1 i

same_trie : (a b : List Row) → IsTrie a → IsTrie b → map bare a ≡ map bare b → a ≡ b
same_trie a b ta tb e = sym (bare_plain a ta.plain) ∙ e ∙ bare_plain b tb.plain

-- Neither which of two tries is the left one, nor which two of three are united first, makes a difference.
pub trie_commutative : (a b : List Row) → IsTrie a → IsTrie b → union a b ≡ union b a
trie_commutative a b ta tb =
    same_trie (union a b) (union b a) (union_trie a b ta tb) (union_trie b a tb ta) (union_commutative a b)

pub trie_associative : (a b c : List Row) → IsTrie a → IsTrie b → IsTrie c → union (union a b) c ≡ union a (union b c)
trie_associative a b c ta tb tc =
    same_trie (union (union a b) c) (union a (union b c))
    (union_trie (union a b) c (union_trie a b ta tb) tc)
    (union_trie a (union b c) ta (union_trie b c tb tc))
    (union_associative a (0 ∷ []) b c ta.order tb.order tc.order)

-- a trie is not too deep
pub trie_shallow : (rows : List Row) → IsTrie rows → is_too_deep rows ≡ false
unfolding Ordered is_too_deep
trie_shallow rows t = go (0 ∷ []) rows (ordered_true (0 ∷ []) rows t.order)
  where
    go : (s : List ℕ) (rows : List Row) → Ordered s rows → is_too_deep rows ≡ false
    go s [] o = refl
    go s (row ∷ rows) o = rw (le-ltb _ _ o.2) (go (at s row) rows o.3)

-- What a trie has taken in.

module _ (trie added : List Row) (t : IsTrie trie) (a : IsTrie added) where
  -- a trie has taken in what was added to it
  pub takes_added : union (union trie added) added ≡ union trie added
  takes_added = trie_associative trie added added t a a ∙ rw union_idempotent

  -- it keeps what it has taken in
  module _ (more : List Row) (m : IsTrie more) (h : union trie added ≡ trie) where
    pub keeps_left : union (union trie more) added ≡ union trie more
    keeps_left =
        trie_associative trie more added t m a
        ∙ rw (trie_commutative more added m a, ← trie_associative trie added more t a m, h)

    pub keeps_right : union (union more trie) added ≡ union more trie
    keeps_right = trie_associative more trie added m t a ∙ rw h

-- also where many are added
keeps_all :
    (tries : List (List Row)) (trie added : List Row)
    → IsTrie trie
    → IsTrie added
    → Each IsTrie tries
    → union trie added ≡ trie
    → union (union_all trie tries) added ≡ union_all trie tries
unfolding union_all Each
keeps_all [] trie added t a ts h = h
keeps_all (more ∷ tries) trie added t a ts h =
    keeps_all tries (union trie more) added (union_trie trie more t ts.0) a ts.1 (keeps_left trie added t a more ts.0 h)

-- many tries that are added to one give a trie, if it is not too deep and each of them is one where it is not too deep
all_trie :
    (tries : List (List Row)) (trie : List Row)
    → IsTrie trie
    → Each (λ more. is_too_deep more ≡ false → IsTrie more) tries
    → is_too_deep (union_all trie tries) ≡ false
    → IsTrie (union_all trie tries)
unfolding union_all Each any_too_deep
all_trie [] trie t ts shallow = t
all_trie (more ∷ tries) trie t ts shallow =
    let (first, _) = or_neither _ (any_too_deep tries) (sym (all_deep (union trie more) tries) ∙ shallow) in
    let (_, second) = or_neither (is_too_deep trie) _ (sym (union_too_deep trie more) ∙ first) in
    all_trie tries (union trie more) (union_trie trie more t (ts.0 second)) ts.1 shallow

-- Rows below a node, and rows behind an entry.

-- the rows of a trie may stand below a node
trie_below : (rows : List Row) → IsTrie rows → Below 1 (0 ∷ []) rows
unfolding Ordered Each Below
trie_below rows t = go (0 ∷ []) rows (ordered_true (0 ∷ []) rows t.order) t.plain
  where
    go : (s : List ℕ) (rows : List Row) → Ordered s rows → Each Plain rows → Below 1 s rows
    go s [] o p = tt
    go s (row ∷ rows) o p = (
      node_step row o.0 p.0.node,
      omega (arith, eqb-false row.depth 0 p.0.node),
      p.0.untyped,
      o.1,
      go (at s row) rows o.3 p.1,
    )

-- nodes in order behind an entry, none too deep, are a trie
nodes_trie : (rows : List Row) → Nodes (0 ∷ []) rows → is_too_deep rows ≡ false → IsTrie rows
unfolding Ordered Each Nodes is_too_deep
nodes_trie rows n shallow = record {
  order = true_ordered (0 ∷ []) rows (order (0 ∷ []) rows n shallow);
  plain = plain (0 ∷ []) rows n;
}
  where
    order : (s : List ℕ) (rows : List Row) → Nodes s rows → is_too_deep rows ≡ false → Ordered s rows
    order s [] n shallow = tt
    order s (row ∷ rows) n shallow =
        let (first, others) = or_neither (ltb most_steps row.depth) _ shallow in
        (n.0, n.2, ltb-false _ _ first, order (at s row) rows n.3 others)

    plain : (s : List ℕ) (rows : List Row) → Nodes s rows → Each Plain rows
    plain s [] n = tt
    plain s (row ∷ rows) n = (n.1, plain (at s row) rows n.3)

-- rows that are more than one deep are nodes whatever their steps
below_nodes : (s : List ℕ) (rows : List Row) → Below 2 s rows → Nodes s rows
unfolding Below Nodes
below_nodes s [] b = tt
below_nodes s (row ∷ rows) (step, deep, untyped, after, more) =
    let node : is_entry row ≡ false = ne_eqb row.depth 0 (omega arith) in
    let low : eqb row.depth 1 ≡ false = ne_eqb row.depth 1 (omega arith) in
    (rw (node, low, step, untyped), record { node = node; untyped = untyped }, after, below_nodes (at s row) rows more)

-- the place of a row that is moved below another place
place_moved :
    (front q : List ℕ) (y e step : ℕ)
    → take (length front + suc e) (front ++ y ∷ q) ++ (step ∷ []) ≡ front ++ y ∷ (take e q ++ (step ∷ []))
place_moved front q y e step = rw (take-append-add front (y ∷ q) (suc e), append_assoc)

-- rows after x and then q, so much deeper, come after y and then q, and others behind them that come after y and then anything
moved :
    (least : ℕ) (front : List ℕ) (x y : ℕ) (rest : List Row)
    → least ≤ length front + 1
    → ((q : List ℕ) → Below least (front ++ y ∷ q) rest)
    → (rows : List Row) (q : List ℕ)
    → Below 1 (x ∷ q) rows
    → Below least (front ++ y ∷ q) (deeper (length front) rows ++ rest)
unfolding Below deeper
moved least front x y rest enough then [] q b = then q
moved least front x y rest enough then (row ∷ rows) q (step, deep, untyped, after, more) =
    go row.depth refl (moved least front x y rest enough then rows)
  where
    go :
        (d : ℕ)
        → row.depth ≡ d
        → ((q : List ℕ) → Below 1 (x ∷ q) rows → Below least (front ++ y ∷ q) (deeper (length front) rows ++ rest))
        → Below least (front ++ y ∷ q) (deeper (length front) (row ∷ rows) ++ rest)
    go zero e others = absurd (omega arith)
    go (suc d) e others = (
      step,
      omega arith,
      untyped,
      record {
        near = rw length-append (omega (arith, after.near));
        past = λ h. rw (e, get_or-append-add front (y ∷ q) (suc d) 0) (rw e at (after.past (omega (arith, rw length-append at h))));
      },
      rw (e, place_moved front q y d row.step) (others (take d q ++ (row.step ∷ [])) (rw e at more)),
    )

-- The trie of a path.

-- a field is a step
pub field_step : (f : ℕ) → f < 65536 → is_step f ≡ true
field_step f h = let kind : kind_of f ≡ 0 = omega arith in simp (kind, or-true)

-- the steps of a root and fields stand at their depths
fields_at : (fields : Path) (d : ℕ) → 2 ≤ d → Each (λ f. f < 65536) fields → StepsAt d fields
unfolding Each StepsAt
fields_at [] d low h = tt
fields_at (f ∷ fields) d low h =
    (rw (ne_eqb d 1 (omega arith)) (field_step f h.0), fields_at fields (suc d) (omega arith) h.1)

stepped_at : (path : Path) → Stepped path → StepsAt 1 path
unfolding Stepped StepsAt
stepped_at [] h = tt
stepped_at (first ∷ fields) h = (h.0, fields_at fields 2 (omega arith) h.1)

-- a row one deeper than a place, and others after it
row_then :
    (s : List ℕ) (d step : ℕ) (mark : Bool) (rest : List Row)
    → length s ≡ d
    → 1 ≤ d
    → cond (eqb d 1) (is_root step) (is_step step) ≡ true
    → Nodes (s ++ (step ∷ [])) rest
    → Nodes s (read d step mark ∷ rest)
unfolding Nodes
row_then s d step mark rest e low of-step more =
    let node : eqb d 0 ≡ false = ne_eqb d 0 (omega arith) in (
      rw (node, of-step),
      record { node = node; untyped = refl },
      record { near = omega arith; past = λ h. absurd (omega arith) },
      rw (take_all d s (omega arith)) more,
    )

-- the nodes of a path's steps, and others after its last step
chain_then :
    (path : Path) (s : List ℕ) (d : ℕ) (mark : Bool) (rest : List Row)
    → length s ≡ d
    → 1 ≤ d
    → StepsAt d path
    → Nodes (s ++ path) rest
    → Nodes s (chain d mark path ++ rest)
unfolding StepsAt chain
chain_then [] s d mark rest e low steps more = rw append-nil at more
chain_then (step ∷ []) s d mark rest e low steps more = row_then s d step mark rest e low steps.0 more
chain_then (step ∷ next ∷ path) s d mark rest e low steps more =
    row_then s d step false (chain (suc d) mark (next ∷ path) ++ rest) e low steps.0
    (chain_then (next ∷ path) (s ++ (step ∷ [])) (suc d) mark rest
    (omega (arith, length-append s (step ∷ [])))
    (omega arith)
    steps.1
    (rw (append_snoc s step (next ∷ path)) more))

ended : (x : ℕ) (xs : List ℕ) → Ended x xs
ended x [] = record { front = []; last = x; whole = refl; size = refl }
ended x (y ∷ xs) =
    let more : Ended y xs = ended y xs in
    record { front = x ∷ more.front; last = more.last; whole = ap (λ l. x ∷ l) more.whole; size = ap suc more.size }

-- what may stand below a leaf stands in order below a path's last node
below_path : (path : Path) (rows : List Row) → 1 ≤ length path → Below 1 (0 ∷ []) rows → Nodes (0 ∷ path) (deeper (length path) rows)
unfolding Below
below_path path rows low b = go (ended 0 path)
  where
    go : Ended 0 path → Nodes (0 ∷ path) (deeper (length path) rows)
    go e =
        rw (e.whole, ← e.size, ← append-nil (deeper (length e.front) rows))
        (below_nodes (e.front ++ (e.last ∷ [])) _ (moved 2 e.front 0 e.last [] (omega arith) (λ q. tt) rows [] b))

-- a path has a first step
pub stepped_some : (path : Path) → Stepped path → 1 ≤ length path
unfolding Stepped
stepped_some [] h = absurd h
stepped_some (first ∷ fields) h = omega arith

module _ (path : Path) (leaf : Leaf) where
  -- the trie of a path has no node where the path is a root with the empty leaf, and otherwise those of its steps and its leaf
  no-rows : (eqb (length path) 1 && is_empty_leaf leaf) ≡ true → to_root_access_trie_with_leaf path leaf ≡ []
  unfolding to_root_access_trie_with_leaf
  no-rows e = rw e

  path_rows :
      (eqb (length path) 1 && is_empty_leaf leaf) ≡ false
      → to_root_access_trie_with_leaf path leaf ≡ chain 1 leaf.mark path ++ deeper (length path) leaf.below
  unfolding to_root_access_trie_with_leaf
  path_rows e = rw e

  -- The trie of a root and fields with a good leaf is a trie, if it is not too deep.
  pub path_trie :
      Stepped path → GoodLeaf leaf → is_too_deep (to_root_access_trie_with_leaf path leaf) ≡ false → IsTrie (to_root_access_trie_with_leaf path leaf)
  path_trie steps good shallow =
      by_test (eqb (length path) 1 && is_empty_leaf leaf)
      (λ e. rw (no-rows e) empty_trie)
      (λ e.
      rw (path_rows e)
      (nodes_trie _
      (chain_then path (0 ∷ []) 1 leaf.mark _ refl (omega arith) (stepped_at path steps)
      (below_path path leaf.below (stepped_some path steps) good.in_order))
      (rw (path_rows e) at shallow)))

  -- where it is not too deep the path has at most 24 steps
  pub path_short : Stepped path → is_too_deep (to_root_access_trie_with_leaf path leaf) ≡ false → IsPath path
  path_short steps shallow =
      let deep = path_deep path leaf (stepped_some path steps) in
      record { steps = steps; short = omega (arith, ltb-false 24 (length path + deepest leaf.below) (sym deep ∙ shallow)) }

-- The trie of a path of at most 24 steps with nothing below its last node is a trie.
pub short_trie : (path : Path) (mark : Bool) → IsPath path → IsTrie (to_root_access_trie_with_leaf path (record { mark = mark; below = [] }))
unfolding Below deepest
short_trie path mark p =
    path_trie path (record { mark = mark; below = [] }) p.steps (record { in_order = tt })
    (path_deep path (record { mark = mark; below = [] }) (stepped_some path p.steps) ∙ le-ltb 24 (length path + 0) (omega (arith, p.short)))

-- Leaves.

-- a leaf with an ancestors trie below it is good
pub ancestors-leaf : (mark : Bool) (ancestors : List Row) → IsTrie ancestors → GoodLeaf (record { mark = mark; below = ancestors })
ancestors-leaf mark ancestors t = record { in_order = trie_below ancestors t }

-- so it is with the attributes in front of lawful lines
attributes_ascend : (items : List Item) (known : Known) → lawful_items known items ≡ true → AllKeys items → Ascends known.field (attributes_of items)
unfolding lawful_items attributes_of Each Ascends
attributes_ascend [] known h keys = tt
attributes_ascend (it ∷ items) known h keys =
    let (fitting, rest) = (cond-true (fits known it) _).0 h in
    by_test (eqb it.tag attribute_line)
    (λ e.
    let (_, tests) = (and-eq-true_iff (ltb 0 known.room) _).0 (rw e at fitting) in
    let (low, _) = (and-eq-true_iff (leb known.field it.key) _).0 tests in
    rw e (leb-true _ _ low, omega (arith, keys.0), rw e at (attributes_ascend items (beyond known it) rest keys.1)))
    (λ e. rw e tt)

-- so it is with the lines from a type on
from_lawful : (t : ℕ) (items lines : List Item) → LawfulLines items → from_type t items ≡ some lines → LawfulLines lines
unfolding lawful_items from_type Each
from_lawful t [] lines h e = absurd (none-ne-some lines e)
from_lawful t (it ∷ items) lines (known, h, keys) e =
    cond_given (leb it.tag last_type && eqb it.key t) (some (it ∷ items)) (from_type t items) lines e
    (λ e. subst LawfulLines (some-injective (it ∷ items) lines e) (known, h, keys))
    (λ e. from_lawful t items lines (beyond known it, ((cond-true (fits known it) _).0 h).1, keys.1) e)

-- the attributes of a type ascend
type_ascends : (items : List Item) → GoodSchema items → (t : ℕ) → (least : ℕ) × Ascends least (attributes_at items t)
unfolding lawful_items Each Ascends
type_ascends items good t = go (from_type t items) (λ lines e. from_lawful t items lines (unknown, good.0, good.1) e)
  where
    go :
        (o : Option (List Item))
        → ((lines : List Item) → o ≡ some lines → LawfulLines lines)
        → (least : ℕ) × Ascends least (elim o [ none ↦ [] | some [] ↦ [] | some (it ∷ more) ↦ attributes_of more ])
    go none lawful = (0, tt)
    go (some []) lawful = (0, tt)
    go (some (it ∷ more)) lawful =
        let (known, h, keys) = lawful (it ∷ more) refl in
        ((beyond known it).field, attributes_ascend more (beyond known it) ((cond-true (fits known it) _).0 h).1 keys.1)

-- the children of a node by ascending attributes are in order below it, where what is below each of them is
children_below :
    (of : ℕ → List Row)
    → ((t : ℕ) → Below 1 (0 ∷ []) (of t))
    → (items : List Item) (least : ℕ) (q : List ℕ)
    → (0 < length q → get_or q 0 0 < least)
    → Ascends least items
    → Below 1 (0 ∷ q) (children_of of items)
unfolding Below Ascends children_of
children_below of h [] least q past ascends = tt
children_below of h (it ∷ more) least q past (low, small, ascends) = (
  field_step it.key small,
  omega arith,
  refl,
  record { near = omega arith; past = λ inside. omega (arith, past (omega arith)) },
  moved 1 (0 ∷ []) 0 it.key (children_of of more) (omega arith)
      (λ q. children_below of h more (it.key + 1) (it.key ∷ q) (λ _. omega arith) ascends)
      (of it.value)
      []
      (h it.value),
)

-- the nodes of a type are in order
type-below : (items : List Item) → GoodSchema items → (n t : ℕ) → Below 1 (0 ∷ []) (type_below n items t)
unfolding Below type_below
type-below items good zero t = tt
type-below items good (suc n) t =
    by_test (eqb t n)
    (λ e.
    let (least, ascends) = type_ascends items good t in
    rw e (children_below (type_below n items) (type-below items good n) (attributes_at items t) least [] (λ h. absurd (omega arith)) ascends))
    (λ e. rw e (type-below items good n t))

-- a leaf of a type of a lawful schema is good
pub type_leaf : (items : List Item) → GoodSchema items → (t : ℕ) → GoodLeaf (type_to_access_trie items t)
type_leaf items good t = record { in_order = type-below items good (suc t) t }

-- Paths that go into a trie.

-- the tries of paths
short_tries : (paths : List Path) (mark : Bool) → AllPaths paths → Each IsTrie (path_tries paths (record { mark = mark; below = [] }))
short_tries paths mark ps =
    each_map IsPath IsTrie (λ path. to_root_access_trie_with_leaf path (record { mark = mark; below = [] })) (λ path p. short_trie path mark p) paths ps

-- tries that are added to one give a trie
pub tries_trie : (trie : List Row) (tries : List (List Row)) → IsTrie trie → Each IsTrie tries → IsTrie (union_all trie tries)
unfolding union_all Each
tries_trie trie [] t ts = t
tries_trie trie (more ∷ tries) t ts = tries_trie (union trie more) tries (union_trie trie more t ts.0) ts.1

-- Paths that go into a trie with nothing below their last nodes give a trie.
pub paths_trie :
    (trie : List Row) (paths : List Path) (mark : Bool)
    → IsTrie trie
    → AllPaths paths
    → IsTrie (add_paths trie paths (record { mark = mark; below = [] }))
paths_trie trie paths mark t ps = tries_trie trie _ t (short_tries paths mark ps)

-- So do those with a good leaf, if that is not too deep.
pub leaves_trie :
    (trie : List Row) (paths : List Path) (leaf : Leaf)
    → IsTrie trie
    → AllPaths paths
    → GoodLeaf leaf
    → is_too_deep (add_paths trie paths leaf) ≡ false
    → IsTrie (add_paths trie paths leaf)
leaves_trie trie paths leaf t ps good shallow =
    all_trie (path_tries paths leaf) trie t
    (each_map IsPath _ (λ path. to_root_access_trie_with_leaf path leaf) (λ path p. path_trie path leaf p.steps good) paths ps)
    shallow

-- And so do those with the types that they take.
pub taken_trie :
    (items : List Item) (trie : List Row) (taken : List Taken)
    → GoodSchema items
    → IsTrie trie
    → Each (λ one. IsPath one.path) taken
    → is_too_deep (add_taken items trie taken) ≡ false
    → IsTrie (add_taken items trie taken)
taken_trie items trie taken good t ps shallow =
    all_trie (taken_tries items taken) trie t
    (each_map (λ one. IsPath one.path) _ (λ one. to_root_access_trie_with_leaf one.path (type_to_access_trie items one.type))
    (λ one p. path_trie one.path (type_to_access_trie items one.type) p.steps (type_leaf items good one.type)) taken ps)
    shallow

-- paths that are absorbed add nothing
pub add_absorbed : (trie : List Row) (paths : List Path) → AllAbsorbed trie paths → add_paths trie paths empty_leaf ≡ trie
unfolding union_all Each
add_absorbed trie [] h = refl
add_absorbed trie (path ∷ paths) h = ap (λ (rows : List Row). add_paths rows paths empty_leaf) h.0 ∙ add_absorbed trie paths h.1

-- a trie that keeps what another has taken in absorbs the paths that the other absorbs
absorbed_by :
    (trie bigger : List Row)
    → ((added : List Row) → IsTrie added → union trie added ≡ trie → union bigger added ≡ bigger)
    → (paths : List Path)
    → AllPaths paths
    → AllAbsorbed trie paths
    → AllAbsorbed bigger paths
unfolding Each
absorbed_by trie bigger keeps [] ps h = tt
absorbed_by trie bigger keeps (path ∷ paths) ps h =
    (keeps (to_root_access_trie_with_leaf path empty_leaf) (short_trie path false ps.0) h.0, absorbed_by trie bigger keeps paths ps.1 h.1)

-- a trie to which paths are added still absorbs what it did
pub still_absorbed :
    (trie : List Row) (more paths : List Path)
    → IsTrie trie
    → AllPaths more
    → AllPaths paths
    → AllAbsorbed trie paths
    → AllAbsorbed (add_paths trie more empty_leaf) paths
still_absorbed trie more paths t ms ps h =
    absorbed_by trie _ (λ added a e. keeps_all (path_tries more empty_leaf) trie added t a (short_tries more false ms) e) paths ps h

-- and it absorbs them too
pub added_absorbed :
    (paths : List Path) (trie : List Row) → IsTrie trie → AllPaths paths → AllAbsorbed (add_paths trie paths empty_leaf) paths
unfolding union_all Each
added_absorbed [] trie t ps = tt
added_absorbed (path ∷ paths) trie t ps =
    let own : List Row = to_root_access_trie_with_leaf path empty_leaf in
    let o : IsTrie own = short_trie path false ps.0 in
    let with-own : IsTrie (union trie own) = union_trie trie own t o in (
      keeps_all (path_tries paths empty_leaf) (union trie own) own with-own o (short_tries paths false ps.1) (takes_added trie own t o),
      added_absorbed paths (union trie own) with-own ps.1,
    )

-- An attribute of paths.

-- what holds of all paths in a record literal holds of those in a field of it
field_each :
    (P : Path → Type 0) (f : ℕ) (fields : Fields) (paths : Paths)
    → Each P (paths_in_fields fields)
    → field_of f fields ≡ some paths
    → Each P (paths_in paths)
unfolding field_of paths_in
field_each P f no_field paths h e = absurd (none-ne-some paths e)
field_each P f (field name own fields) paths h e =
    let (first, others) = each_split P (paths_in own) (paths_in_fields fields) h in
    cond_given (eqb name f) (some own) (field_of f fields) paths e
    (λ e. rw (some-injective own paths e) at first)
    (λ e. field_each P f fields paths others e)

-- and of those in what an attribute step makes of the literal
literal_each :
    (P : Path → Type 0) (f : ℕ) (fields : Fields)
    → Each P (paths_in_fields fields)
    → Each P (paths_in (field_or (field_of f fields) (RecordLiteral fields)))
unfolding paths_in
literal_each P f fields h =
    by_option (field_of f fields) (λ e. rw e h) (λ paths e. rw e (field_each P f fields paths h e))

-- paths after an attribute step are paths before it, or have gained the field
attr_each :
    (P Q : Path → Type 0) (f : ℕ)
    → ((path : Path) → P path → Q (path ++ (f ∷ [])))
    → ((path : Path) → P path → Q path)
    → (paths after : Paths)
    → Each P (paths_in paths)
    → get_or_has_attr f paths ≡ some after
    → Each Q (paths_in after)
unfolding get_or_has_attr paths_in Each
attr_each P Q f grow keep Empty after h e = rw (← some-injective Empty after e) tt
attr_each P Q f grow keep (AccessPath path) after h e =
    rw (← some-injective (AccessPath (path ++ (f ∷ []))) after e) (grow path h.0, tt)
attr_each P Q f grow keep (Union a b) after h e =
    let (of-b, of-a) = each_split P (paths_in b) (paths_in a) h in
    bind_some (get_or_has_attr f b) _ after e λ b' eb e.
    bind_some (get_or_has_attr f a) _ after e λ a' ea e.
    rw (← some-injective (Union a' b') after e)
    (each_append Q (paths_in b') (paths_in a') (attr_each P Q f grow keep b b' of-b eb) (attr_each P Q f grow keep a a' of-a ea))
attr_each P Q f grow keep (RecordLiteral fields) after h e =
    rw (← some-injective (field_or (field_of f fields) (RecordLiteral fields)) after e)
    (each_then P Q keep (paths_in (field_or (field_of f fields) (RecordLiteral fields))) (literal_each P f fields h))
attr_each P Q f grow keep (SetLiteral elements) after h e = absurd (none-ne-some after e)

-- a path that gains a field is a root and fields
pub grown_stepped : (path : Path) (f : ℕ) → f < 65536 → Stepped path → Stepped (path ++ (f ∷ []))
unfolding Stepped Each
grown_stepped [] f small h = absurd h
grown_stepped (first ∷ fields) f small h = (h.0, each_append (λ f. f < 65536) fields (f ∷ []) h.1 (small, tt))

-- paths that are added after others
pub add-append :
    (xs ys : List Path) (trie : List Row) (leaf : Leaf) → add_paths trie (xs ++ ys) leaf ≡ add_paths (add_paths trie xs leaf) ys leaf
unfolding union_all
add-append [] ys trie leaf = refl
add-append (x ∷ xs) ys trie leaf = add-append xs ys (union trie (to_root_access_trie_with_leaf x leaf)) leaf

-- the paths that gain the field add what all paths after the step add, to a trie that absorbs those before it
grown_added :
    (f : ℕ) (paths after : Paths) (trie : List Row)
    → IsTrie trie
    → AllPaths (paths_in paths)
    → AllAbsorbed trie (paths_in paths)
    → AllPaths (grown_in f paths)
    → get_or_has_attr f paths ≡ some after
    → add_paths trie (paths_in after) empty_leaf ≡ add_paths trie (grown_in f paths) empty_leaf
unfolding get_or_has_attr paths_in grown_in union_all
grown_added f Empty after trie t ps absorbed gs e = rw (← some-injective Empty after e)
grown_added f (AccessPath path) after trie t ps absorbed gs e =
    rw (← some-injective (AccessPath (path ++ (f ∷ []))) after e)
grown_added f (Union a b) after trie t ps absorbed gs e =
    let (paths-b, paths-a) = each_split IsPath (paths_in b) (paths_in a) ps in
    let (absorbed-b, absorbed-a) = each_split (Absorbs trie) (paths_in b) (paths_in a) absorbed in
    let (grown-b, grown-a) = each_split IsPath (grown_in f b) (grown_in f a) gs in
    bind_some (get_or_has_attr f b) _ after e λ b' eb e.
    bind_some (get_or_has_attr f a) _ after e λ a' ea e.
    let with_b : List Row = add_paths trie (grown_in f b) empty_leaf in
    rw (
      ← some-injective (Union a' b') after e,
      add-append (paths_in b') (paths_in a') trie empty_leaf,
      grown_added f b b' trie t paths-b absorbed-b grown-b eb,
      add-append (grown_in f b) (grown_in f a) trie empty_leaf,
    )
    (grown_added f a a' with_b
    (paths_trie trie (grown_in f b) false t grown-b)
    paths-a
    (still_absorbed trie (grown_in f b) (paths_in a) t grown-b paths-a absorbed-a)
    grown-a
    ea)
grown_added f (RecordLiteral fields) after trie t ps absorbed gs e =
    rw (← some-injective (field_or (field_of f fields) (RecordLiteral fields)) after e)
    (add_absorbed trie _ (literal_each (Absorbs trie) f fields absorbed))
grown_added f (SetLiteral elements) after trie t ps absorbed gs e = absurd (none-ne-some after e)

-- After an attribute step only the paths that gained the field have to go into the trie: the others are absorbed already.
pub attr_grown :
    (r : Result) (f : ℕ) (after : Paths)
    → GoodResult r
    → get_or_has_attr f r.paths ≡ some after
    → AllPaths (grown_in f r.paths)
    → add_paths r.trie (paths_in after) empty_leaf ≡ add_paths r.trie (grown_in f r.paths) empty_leaf
attr_grown r f after good e gs =
    grown_added f r.paths after r.trie good.good_trie good.good_paths good.absorbed gs e

-- The paths that gain a field are paths where they have at most 24 steps.
pub grown_paths :
    (f : ℕ) (paths : Paths)
    → f < 65536
    → AllPaths (paths_in paths)
    → Each (λ path. length path ≤ 24) (grown_in f paths)
    → AllPaths (grown_in f paths)
unfolding paths_in grown_in Each
grown_paths f Empty small ps short = tt
grown_paths f (AccessPath path) small ps short =
    (record { steps = grown_stepped path f small ps.0.steps; short = short.0 }, tt)
grown_paths f (Union a b) small ps short =
    let (of-b, of-a) = each_split IsPath (paths_in b) (paths_in a) ps in
    let (short-b, short-a) = each_split (λ path. length path ≤ 24) (grown_in f b) (grown_in f a) short in
    each_append IsPath (grown_in f b) (grown_in f a) (grown_paths f b small of-b short-b) (grown_paths f a small of-a short-a)
grown_paths f (RecordLiteral fields) small ps short = tt
grown_paths f (SetLiteral elements) small ps short = tt

-- one of two lists of tries has one that is too deep
any_append : (xs ys : List Path) (leaf : Leaf) → any_too_deep (path_tries (xs ++ ys) leaf) ≡ (any_too_deep (path_tries xs leaf) || any_too_deep (path_tries ys leaf))
unfolding any_too_deep
any_append [] ys leaf = refl
any_append (x ∷ xs) ys leaf =
    rw (any_append xs ys leaf)
    (sym (or_assoc (is_too_deep (to_root_access_trie_with_leaf x leaf)) (any_too_deep (path_tries xs leaf)) (any_too_deep (path_tries ys leaf))))

-- the trie of a path of at most 24 steps is not too deep
none_deep : (paths : List Path) → AllPaths paths → any_too_deep (path_tries paths empty_leaf) ≡ false
unfolding any_too_deep Each
none_deep [] ps = refl
none_deep (path ∷ paths) ps = rw (trie_shallow _ (short_trie path false ps.0)) (none_deep paths ps.1)

-- of the paths after the step only those that gained the field can be too deep
grown_deep :
    (f : ℕ) (paths after : Paths)
    → AllPaths (paths_in paths)
    → get_or_has_attr f paths ≡ some after
    → any_too_deep (path_tries (paths_in after) empty_leaf) ≡ any_too_deep (path_tries (grown_in f paths) empty_leaf)
unfolding get_or_has_attr paths_in grown_in any_too_deep
grown_deep f Empty after ps e = rw (← some-injective Empty after e)
grown_deep f (AccessPath path) after ps e = rw (← some-injective (AccessPath (path ++ (f ∷ []))) after e)
grown_deep f (Union a b) after ps e =
    let (of-b, of-a) = each_split IsPath (paths_in b) (paths_in a) ps in
    bind_some (get_or_has_attr f b) _ after e λ b' eb e.
    bind_some (get_or_has_attr f a) _ after e λ a' ea e.
    rw (
      ← some-injective (Union a' b') after e,
      any_append (paths_in b') (paths_in a') empty_leaf,
      any_append (grown_in f b) (grown_in f a) empty_leaf,
      grown_deep f b b' of-b eb,
      grown_deep f a a' of-a ea,
    )
grown_deep f (RecordLiteral fields) after ps e =
    rw (← some-injective (field_or (field_of f fields) (RecordLiteral fields)) after e)
    (none_deep (paths_in (field_or (field_of f fields) (RecordLiteral fields))) (literal_each IsPath f fields ps))
grown_deep f (SetLiteral elements) after ps e = absurd (none-ne-some after e)

-- After an attribute step the trie is too deep exactly where that of a path is that gained the field.
pub attr_deep :
    (r : Result) (f : ℕ) (after : Paths)
    → GoodResult r
    → get_or_has_attr f r.paths ≡ some after
    → is_too_deep (add_paths r.trie (paths_in after) empty_leaf) ≡ any_too_deep (path_tries (grown_in f r.paths) empty_leaf)
attr_deep r f after good e =
    all_deep r.trie (path_tries (paths_in after) empty_leaf)
    ∙ rw (trie_shallow r.trie good.good_trie) (grown_deep f r.paths after good.good_paths e)

-- Types that paths take.

-- a field of a record literal takes the type that its attribute has, or none
field_cases :
    {A : Type 0} (o : Option ℕ) (own : ℕ → Option (List Taken)) (others : Option (List Taken)) (taken : List Taken)
    → elim o [ none ↦ others | some t ↦ own t >>= (λ first. others >>= (λ more. some (first ++ more))) ] ≡ some taken
    → (others ≡ some taken → A)
    → ((t : ℕ) (first more : List Taken) → own t ≡ some first → others ≡ some more → first ++ more ≡ taken → A)
    → A
field_cases none own others taken e none_then Some-then = none_then e
field_cases (some t) own others taken e none_then Some-then =
    bind_some (own t) _ taken e λ first ep e.
    bind_some others _ taken e λ more ef e. Some-then t first more ep ef (some-injective (first ++ more) taken e)

-- what holds of all paths holds of those that take a type
mutual
  unfolding full_type_required paths_in Each

  pub taken_each :
      (P : Path → Type 0) (items : List Item) (paths : Paths) (t : ℕ) (taken : List Taken)
      → Each P (paths_in paths)
      → full_type_required items paths t ≡ some taken
      → Each (λ one. P one.path) taken
  taken_each P items Empty t taken h e = rw (← some-injective [] taken e) tt
  taken_each P items (AccessPath path) t taken h e =
      rw (← some-injective (record { path = path; type = t } ∷ []) taken e) (h.0, tt)
  taken_each P items (Union a b) t taken h e =
      let (of-b, of-a) = each_split P (paths_in b) (paths_in a) h in
      bind_some (full_type_required items b t) _ taken e λ tb eb e.
      bind_some (full_type_required items a t) _ taken e λ ta ea e.
      rw (← some-injective (tb ++ ta) taken e)
      (each_append (λ one. P one.path) tb ta (taken_each P items b t tb of-b eb) (taken_each P items a t ta of-a ea))
  taken_each P items (RecordLiteral fields) t taken h e =
      let (_, e) = cond-some (eqb (kind_at items t) record_type && has_all fields (attributes_at items t)) _ taken e in
      fields_each P items fields (attributes_at items t) taken h e
  taken_each P items (SetLiteral elements) t taken h e =
      let (_, e) = cond-some (eqb (kind_at items t) set_type) _ taken e in
      taken_each P items elements (element_at items t) taken h e

  fields_each :
      (P : Path → Type 0) (items : List Item) (fields : Fields) (attributes : List Item) (taken : List Taken)
      → Each P (paths_in_fields fields)
      → fields_required items fields attributes ≡ some taken
      → Each (λ one. P one.path) taken
  fields_each P items no_field attributes taken h e = rw (← some-injective [] taken e) tt
  fields_each P items (field name paths fields) attributes taken h e =
      let (of-paths, of_Fields) = each_split P (paths_in paths) (paths_in_fields fields) h in
      field_cases (attribute_type name attributes) (full_type_required items paths) (fields_required items fields attributes) taken e
      (λ e. fields_each P items fields attributes taken of_Fields e)
      (λ t first more ep ef same.
      rw (← same)
      (each_append (λ one. P one.path) first more
      (taken_each P items paths t first of-paths ep)
      (fields_each P items fields attributes more of_Fields ef)))

-- What a step keeps.

-- Where `judged` accepts, the result is within the limits and stands on the stack.
pub judged_accepted :
    (place : ℕ) (top : Result) (stack after : List Result)
    → judged place top stack ≡ accepted after
    → Judged top × (top ∷ stack ≡ after)
judged_accepted place top stack after e = go _ refl e
  where
    go :
        (o : Option ℕ)
        → first_of
        ((ltb most_results (suc (length stack)), 6)
        ∷ (ltb most_path_nodes (nodes_of top.paths), 15)
        ∷ (is_too_deep top.trie, 3)
        ∷ (ltb contribution.nodes (length top.trie), 4)
        ∷ [])
        ≡ o
        → answer_by place (top ∷ stack) o ≡ accepted after
        → Judged top × (top ∷ stack ≡ after)
    go (some number) q e = refused_not number place after e
    go none q e =
        let (_, q) = (cond-none {A = ℕ} (ltb most_results (suc (length stack))) 6 _).0 q in
        let (nodes, q) = (cond-none {A = ℕ} (ltb most_path_nodes (nodes_of top.paths)) 15 _).0 q in
        let (shallow, q) = (cond-none {A = ℕ} (is_too_deep top.trie) 3 _).0 q in
        let (rows, _) = (cond-none {A = ℕ} (ltb contribution.nodes (length top.trie)) 4 _).0 q in (
          record { few_nodes = ltb-false _ _ nodes; shallow = shallow; few_rows = ltb-false _ _ rows },
          accepted_same (top ∷ stack) after e,
        )

-- so a result that is good within the limits leaves a good stack
judged_good :
    (place : ℕ) (top : Result) (stack after : List Result)
    → AllGood stack
    → (Judged top → GoodResult top)
    → judged place top stack ≡ accepted after
    → AllGood after
unfolding Each
judged_good place top stack after good top_good e =
    let (j, same) = judged_accepted place top stack after e in
    subst AllGood same (top_good j, good)

-- a result without paths is good where its trie is one
empty_good : (trie : List Row) → (is_too_deep trie ≡ false → IsTrie trie) → Judged (empty_paths trie) → GoodResult (empty_paths trie)
unfolding paths_in Each
empty_good trie t j =
    record { few_nodes = j.few_nodes; good_paths = tt; good_trie = t j.shallow; few_rows = j.few_rows; absorbed = tt }

-- `var` and `lit`
root_good : (r : ℕ) → is_root r ≡ true → Judged (from_root r) → GoodResult (from_root r)
unfolding paths_in Each Stepped
root_good r h j =
    let path : IsPath (r ∷ []) = record { steps = (h, tt); short = omega arith } in
    record {
      few_nodes = j.few_nodes;
      good_paths = (path, tt);
      good_trie = short_trie (r ∷ []) false path;
      few_rows = j.few_rows;
      absorbed = (union_idempotent _, tt);
    }

-- paths whose tries are not too deep
short_paths : (paths : List Path) (leaf : Leaf) → Each Stepped paths → any_too_deep (path_tries paths leaf) ≡ false → AllPaths paths
unfolding Each any_too_deep
short_paths [] leaf steps shallow = tt
short_paths (path ∷ paths) leaf steps shallow =
    let (first, others) = or_neither (is_too_deep (to_root_access_trie_with_leaf path leaf)) _ shallow in
    (path_short path leaf steps.0 first, short_paths paths leaf steps.1 others)

-- `attr`
attr_good :
    (top : Result) (f : ℕ) (paths : Paths)
    → GoodResult top
    → f < 65536
    → get_or_has_attr f top.paths ≡ some paths
    → Judged (restored top.trie paths)
    → GoodResult (restored top.trie paths)
attr_good top f paths good small e j =
    let steps : Each Stepped (paths_in paths) =
    attr_each IsPath Stepped f (λ path p. grown_stepped path f small p.steps) (λ path p. p.steps) top.paths paths good.good_paths e
    in
    let shallow = (or_neither (is_too_deep top.trie) _ (sym (all_deep top.trie (path_tries (paths_in paths) empty_leaf)) ∙ j.shallow)).1 in
    let ps : AllPaths (paths_in paths) = short_paths (paths_in paths) empty_leaf steps shallow in
    record {
      few_nodes = j.few_nodes;
      good_paths = ps;
      good_trie = paths_trie top.trie (paths_in paths) false good.good_trie ps;
      few_rows = j.few_rows;
      absorbed = added_absorbed (paths_in paths) top.trie good.good_trie ps;
    }

module _ (a b : List Row) (ta : IsTrie a) (tb : IsTrie b) (as-paths bs-paths : List Path) where
  -- a union absorbs what its two tries absorb
  both_absorbed :
      AllPaths as-paths
      → AllPaths bs-paths
      → AllAbsorbed a as-paths
      → AllAbsorbed b bs-paths
      → AllAbsorbed (union a b) as-paths × AllAbsorbed (union a b) bs-paths
  both_absorbed pa pb ha hb = (
    absorbed_by a (union a b) (λ added t e. keeps_left a added ta t b tb e) as-paths pa ha,
    absorbed_by b (union a b) (λ added t e. keeps_right b added tb t a ta e) bs-paths pb hb,
  )

-- `union`
both_good : (x y : Result) → GoodResult x → GoodResult y → Judged (union_results x y) → GoodResult (union_results x y)
unfolding paths_in
both_good x y gx gy j =
    let (of-x, of-y) =
    both_absorbed x.trie y.trie gx.good_trie gy.good_trie (paths_in x.paths) (paths_in y.paths)
    gx.good_paths gy.good_paths gx.absorbed gy.absorbed
    in
    record {
      few_nodes = j.few_nodes;
      good_paths = each_append IsPath (paths_in y.paths) (paths_in x.paths) gy.good_paths gx.good_paths;
      good_trie = union_trie x.trie y.trie gx.good_trie gy.good_trie;
      few_rows = j.few_rows;
      absorbed = each_append (Absorbs (union x.trie y.trie)) (paths_in y.paths) (paths_in x.paths) of-y of-x;
    }

-- `in`
in_good : (x y : Result) → GoodResult x → GoodResult y → Judged (in_result x y) → GoodResult (in_result x y)
in_good x y gx gy j = empty_good _ trie j
  where
    ancestors : List Row
    ancestors = to_ancestor_access_trie y.paths

    trie : is_too_deep (union (with_ancestors_required x ancestors) y.trie) ≡ false → IsTrie (union (with_ancestors_required x ancestors) y.trie)
    trie shallow =
        let first = (or_neither (is_too_deep (with_ancestors_required x ancestors)) _ (sym (union_too_deep _ y.trie) ∙ shallow)).0 in
        union_trie _ y.trie
        (leaves_trie x.trie (paths_in x.paths) _ gx.good_trie gx.good_paths
        (ancestors-leaf false ancestors (paths_trie [] (paths_in y.paths) true empty_trie gy.good_paths))
        first)
        gy.good_trie

-- `set`
set_good :
    (top : Result)
    → GoodResult top
    → Judged (result top.trie (SetLiteral top.paths))
    → GoodResult (result top.trie (SetLiteral top.paths))
unfolding paths_in
set_good top g j = record {
  few_nodes = j.few_nodes;
  good_paths = g.good_paths;
  good_trie = g.good_trie;
  few_rows = j.few_rows;
  absorbed = g.absorbed;
}

wrapped_good : (names : List ℕ) (stack : List Result) (w : Wrapped) → AllGood stack → wrapped names stack ≡ some w → GoodWrapped w
unfolding wrapped paths_in Each
wrapped_good [] stack w good e =
    subst GoodWrapped (some-injective _ w e) (record { paths = tt; trie = empty_trie; absorbed = tt; left = good })
wrapped_good (name ∷ names) [] w good e = absurd (none-ne-some w e)
wrapped_good (name ∷ names) (top ∷ stack) w good e =
    bind_some (wrapped names stack) _ w e λ more em e.
    let g : GoodWrapped more = wrapped_good names stack more good.1 em in
    let own : GoodResult top = good.0 in
    let (of_more, of-own) =
    both_absorbed more.trie top.trie g.trie own.good_trie (paths_in_fields more.fields) (paths_in top.paths)
    g.paths own.good_paths g.absorbed own.absorbed
    in
    subst GoodWrapped (some-injective _ w e) (record {
      paths = each_append IsPath (paths_in top.paths) (paths_in_fields more.fields) own.good_paths g.paths;
      trie = union_trie more.trie top.trie g.trie own.good_trie;
      absorbed = each_append (Absorbs (union more.trie top.trie)) (paths_in top.paths) (paths_in_fields more.fields) of-own of_more;
      left = g.left;
    })

-- and the record literal of it
rec_kept :
    (w : Wrapped)
    → GoodWrapped w
    → Judged (result w.trie (RecordLiteral w.fields))
    → GoodResult (result w.trie (RecordLiteral w.fields))
unfolding paths_in
rec_kept w g j = record {
  few_nodes = j.few_nodes;
  good_paths = g.paths;
  good_trie = g.trie;
  few_rows = j.few_rows;
  absorbed = g.absorbed;
}

-- `full`
full_good :
    (items : List Item) (top : Result) (t : ℕ) (taken : List Taken)
    → GoodSchema items
    → GoodResult top
    → full_type_required items top.paths t ≡ some taken
    → Judged (empty_paths (add_taken items top.trie taken))
    → GoodResult (empty_paths (add_taken items top.trie taken))
full_good items top t taken schema g e =
    empty_good _
    (taken_trie items top.trie taken schema g.good_trie (taken_each IsPath items top.paths t taken g.good_paths e))

-- A good step that is accepted leaves a good stack good.
pub apply_good :
    (items : List Item)
    → GoodSchema items
    → (place : ℕ) (step : Step)
    → GoodStep step
    → (stack after : List Result)
    → AllGood stack
    → apply items place step stack ≡ accepted after
    → AllGood after
unfolding apply Each
apply_good items schema place (root r) h stack after good e = judged_good place (from_root r) stack after good (root_good r h) e
apply_good items schema place none_line h stack after good e =
    judged_good place default_result stack after good (empty_good [] (λ _. empty_trie)) e
apply_good items schema place (attr f) h [] after good e = refused_not 6 place after e
apply_good items schema place (attr f) h (top ∷ stack) after good e =
    by_option (get_or_has_attr f top.paths)
    (λ q. refused_not 7 place after (rw (q, attr_step) at e))
    (λ paths q. judged_good place (restored top.trie paths) stack after good.1 (attr_good top f paths good.0 h q) (rw (q, attr_step) at e))
apply_good items schema place union_line h [] after good e = refused_not 6 place after e
apply_good items schema place union_line h (y ∷ []) after good e = refused_not 6 place after e
apply_good items schema place union_line h (y ∷ x ∷ stack) after good e =
    judged_good place (union_results x y) stack after good.1.1 (both_good x y good.1.0 good.0) e
apply_good items schema place drop_line h [] after good e = refused_not 6 place after e
apply_good items schema place drop_line h (top ∷ stack) after good e =
    judged_good place (empty_paths top.trie) stack after good.1 (empty_good top.trie (λ _. good.0.good_trie)) e
apply_good items schema place (full t) h [] after good e =
    by_option (from_type t items)
    (λ q. refused_not 1 place after (rw (q, full_step) at e))
    (λ lines q. refused_not 6 place after (rw (q, full_step) at e))
apply_good items schema place (full t) h (top ∷ stack) after good e =
    by_option (from_type t items)
    (λ q. refused_not 1 place after (rw (q, full_step) at e))
    (λ lines q.
    by_option (full_type_required items top.paths t)
    (λ p. refused_not 8 place after (rw (q, full_step, p, full_step) at e))
    (λ taken p.
    judged_good place (empty_paths (add_taken items top.trie taken)) stack after good.1
    (full_good items top t taken schema good.0 p)
    (rw (q, full_step, p, full_step) at e)))
apply_good items schema place in_line h [] after good e = refused_not 6 place after e
apply_good items schema place in_line h (y ∷ []) after good e = refused_not 6 place after e
apply_good items schema place in_line h (y ∷ x ∷ stack) after good e =
    judged_good place (in_result x y) stack after good.1.1 (in_good x y good.1.0 good.0) e
apply_good items schema place set h [] after good e = refused_not 6 place after e
apply_good items schema place set h (top ∷ stack) after good e =
    judged_good place (result top.trie (SetLiteral top.paths)) stack after good.1 (set_good top good.0) e
apply_good items schema place (rec names) h stack after good e =
    by_option (wrapped names stack)
    (λ q. refused_not 6 place after (rw (q, rec_step) at e))
    (λ w q.
    let g : GoodWrapped w = wrapped_good names stack w good q in
    judged_good place (result w.trie (RecordLiteral w.fields)) w.left after g.left (rec_kept w g) (rw (q, rec_step) at e))
