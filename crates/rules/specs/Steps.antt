-- Document 01, 'Paths and analysis steps': 'a list of steps in postfix order over a stack', one a line.
use Rattle.std.specs.Prelude.{ℕ, suc, Bool, false, cond, ◌||◌, List, [], ◌∷◌, ◌++◌, leb, ltb, length}
use Rattle.std.proofs.Math.Option.{Option, none, some}
use Rattle.rules.specs.Numbers.{Answer, accepted, refused, and_then, answer_by, first_of, most_steps}
use Rattle.rules.specs.Text.{bytes, fields_of, decimal_of}
use Rattle.rules.specs.Lines.{Folded, fold_text}
use Rattle.rules.specs.Tries.{Row, step_of, literals, same_list, contribution, union as union_tries}
use Rattle.rules.specs.Listing.{read, place_in, ◌>>=◌}
use Rattle.rules.specs.Schema.{Item, from_type, ascending}
use Rattle.rules.specs.Paths.{
  Paths,
  Empty,
  AccessPath,
  Union,
  RecordLiteral,
  SetLiteral,
  Fields,
  no_field,
  field,
  empty_leaf,
  paths_in,
  nodes_of,
  get_or_has_attr,
  to_root_access_trie_with_leaf,
  add_paths,
  to_ancestor_access_trie,
  full_type_required,
  add_taken,
}

-- `EntityManifestAnalysisResult`: the trie, and the paths that a step may extend.
pub record Result : Type 0 where
  pub trie : List Row
  pub paths : Paths

abbrev pub result : List Row → Paths → Result
result trie paths = record { trie = trie; paths = paths }

-- `from_root`
abbrev pub from_root : ℕ → Result
from_root root = result (to_root_access_trie_with_leaf (root ∷ []) empty_leaf) (AccessPath (root ∷ []))

-- 'the default result'
abbrev pub default_result : Result
default_result = result [] Empty

-- `restore_global_trie_invariant`: 'all resulting paths go into the trie'
abbrev pub restored : List Row → Paths → Result
restored trie paths = result (add_paths trie (paths_in paths) empty_leaf) paths

-- `union`: 'tries merged, paths joined as Union, even of two Empty'
abbrev pub union_results : Result → Result → Result
union_results left right = result (union_tries left.trie right.trie) (Union left.paths right.paths)

-- `empty_paths`
abbrev pub empty_paths : List Row → Result
empty_paths trie = result trie Empty

-- `with_ancestors_required`: every path takes an ancestors trie as leaf
abbrev pub with_ancestors_required : Result → List Row → List Row
with_ancestors_required left ancestors = add_paths left.trie (paths_in left.paths) (record { mark = false; below = ancestors })

-- 'left `with_ancestors_required` of the ancestor trie of right's paths, then union with right, then `drop`'
abbrev pub in_result : Result → Result → Result
in_result left right = empty_paths (union_tries (with_ancestors_required left (to_ancestor_access_trie right.paths)) right.trie)

-- What a record literal takes from the stack, 'last on top': the tries merged, the fields, and the results that are left.
pub record Wrapped : Type 0 where
  pub trie : List Row
  pub fields : Fields
  pub left : List Result

unfoldable pub wrapped : List ℕ → List Result → Option Wrapped
wrapped [] stack = some (record { trie = []; fields = no_field; left = stack })
wrapped (name ∷ names) [] = none
wrapped (name ∷ names) (top ∷ stack) = do
  more ← wrapped names stack
  some (record { trie = union_tries more.trie top.trie; fields = field name top.paths more.fields; left = more.left })

-- The steps, one a line; the names of `rec` last first.
pub data Step : Type 0 where
  root : ℕ → Step
  none_line : Step
  attr : ℕ → Step
  union_line : Step
  drop_line : Step
  full : ℕ → Step
  in_line : Step
  set : Step
  rec : List ℕ → Step

abbrev pub reversed : List ℕ → List ℕ
reversed [] = []
reversed (x ∷ xs) = reversed xs ++ (x ∷ [])

-- whether a field is a word
abbrev pub is_text : List ℕ → List ℕ → Bool
is_text word given = same_list given word

-- 'k 0..32, strictly ascending'
abbrev pub rec_of : List (List ℕ) → Option Step
rec_of names = do
  ns ← ascending 0 names
  cond (leb (length ns) 32) (some (rec (reversed ns))) none

-- a step of one word
abbrev pub bare_step : List ℕ → Option Step
bare_step word =
    cond (is_text (bytes "none") word) (some none_line)
    (cond (is_text (bytes "union") word) (some union_line)
    (cond (is_text (bytes "drop") word) (some drop_line)
    (cond (is_text (bytes "in") word) (some in_line)
    (cond (is_text (bytes "set") word) (some set) (cond (is_text (bytes "rec") word) (some (rec [])) none)))))

-- a step of a word and a field: '`var` p/a/r/c, `lit` id', `attr` f, `full` t, or `rec` of one name
abbrev pub step_with : List ℕ → List ℕ → Option Step
step_with word name =
    cond (is_text (bytes "var") word) (place_in (bytes "parc") name >>= (λ kind. some (root (step_of (suc kind) 0))))
    (cond (is_text (bytes "lit") word) (decimal_of name >>= (λ id. some (root (step_of literals id))))
    (cond (is_text (bytes "attr") word) (decimal_of name >>= (λ f. some (attr f)))
    (cond (is_text (bytes "full") word) (decimal_of name >>= (λ t. some (full t)))
    (cond (is_text (bytes "rec") word) (rec_of (name ∷ [])) none))))

-- the step of a line, by its fields
unfoldable pub step_from : List (List ℕ) → Option Step
step_from [] = none
step_from (word ∷ []) = bare_step word
step_from (word ∷ name ∷ []) = step_with word name
step_from (word ∷ name ∷ more ∷ names) = cond (is_text (bytes "rec") word) (rec_of (name ∷ more ∷ names)) none

-- 'a position would exceed 24 steps'
unfoldable pub is_too_deep : List Row → Bool
is_too_deep [] = false
is_too_deep (row ∷ rows) = ltb most_steps row.depth || is_too_deep rows

-- limits of the stack: results, and path nodes in one of them
abbrev pub most_results : ℕ
most_results = 32

abbrev pub most_path_nodes : ℕ
most_path_nodes = 256

-- a step's result on the stack, judged as a whole: over 32 results is 6, then 15, 3, 4
abbrev pub judged : ℕ → Result → List Result → Answer (List Result)
judged place top stack =
    answer_by place (top ∷ stack)
    (first_of
    ((ltb most_results (suc (length stack)), 6)
    ∷ (ltb most_path_nodes (nodes_of top.paths), 15)
    ∷ (is_too_deep top.trie, 3)
    ∷ (ltb contribution.nodes (length top.trie), 4)
    ∷ []))

-- One step on the stack, its top first.
abbrev pub attr_step : ℕ → ℕ → List Result → Answer (List Result)
attr_step place f [] = refused 6 place
attr_step place f (top ∷ stack) =
    elim (get_or_has_attr f top.paths) [ none ↦ refused 7 place | some paths ↦ judged place (restored top.trie paths) stack ]

abbrev pub drop_step : ℕ → List Result → Answer (List Result)
drop_step place [] = refused 6 place
drop_step place (top ∷ stack) = judged place (empty_paths top.trie) stack

abbrev pub set_step : ℕ → List Result → Answer (List Result)
set_step place [] = refused 6 place
set_step place (top ∷ stack) = judged place (result top.trie (SetLiteral top.paths)) stack

abbrev pub two_step : (Result → Result → Result) → ℕ → List Result → Answer (List Result)
two_step of place [] = refused 6 place
two_step of place (right ∷ []) = refused 6 place
two_step of place (right ∷ left ∷ stack) = judged place (of left right) stack

abbrev pub rec_step : List ℕ → ℕ → List Result → Answer (List Result)
rec_step names place stack =
    elim (wrapped names stack) [ none ↦ refused 6 place | some w ↦ judged place (result w.trie (RecordLiteral w.fields)) w.left ]

-- 'a t the schema lacks is 1', before 6
abbrev pub full_step : List Item → ℕ → ℕ → List Result → Answer (List Result)
full_step items t place [] = elim (from_type t items) [ none ↦ refused 1 place | some lines ↦ refused 6 place ]
full_step items t place (top ∷ stack) =
    elim (from_type t items) [
      | none ↦ refused 1 place
      | some lines ↦
          elim (full_type_required items top.paths t) [
            | none ↦ refused 8 place
            | some taken ↦ judged place (empty_paths (add_taken items top.trie taken)) stack
          ]
    ]

unfoldable pub apply : List Item → ℕ → Step → List Result → Answer (List Result)
apply items place (root r) stack = judged place (from_root r) stack
apply items place none_line stack = judged place default_result stack
apply items place (attr f) stack = attr_step place f stack
apply items place union_line stack = two_step union_results place stack
apply items place drop_line stack = drop_step place stack
apply items place (full t) stack = full_step items t place stack
apply items place in_line stack = two_step in_result place stack
apply items place set stack = set_step place stack
apply items place (rec names) stack = rec_step names place stack

-- a step on a stack, where the line is one
abbrev pub stepped : List Item → ℕ → Option Step → List Result → Answer (List Result)
stepped items place none stack = refused 1 place
stepped items place (some step) stack = apply items place step stack

-- the step of a line on a stack
abbrev pub step_line : List Item → ℕ → List ℕ → List Result → Answer (List Result)
step_line items place line stack = stepped items place (step_from (fields_of line)) stack

-- what a text comes to: how many lines it has, and the stack after them
abbrev pub run : List Item → List ℕ → Answer (Folded (List Result))
run items text = fold_text (step_line items) text []

-- 'At the end exactly one result is on the stack; its trie is the contribution.' 6 otherwise, at the number of lines.
abbrev pub ended : ℕ → ℕ → List Result → Answer (List Row)
ended request lines [] = refused 6 lines
ended request lines (top ∷ []) = accepted (read 0 request false ∷ top.trie)
ended request lines (top ∷ next ∷ stack) = refused 6 lines

abbrev pub contribution_of : ℕ → Answer (Folded (List Result)) → Answer (List Row)
contribution_of request ran = and_then ran (λ run. ended request run.lines run.state)

-- the contribution of a step text under a request type
abbrev pub analyse : List Item → ℕ → List ℕ → Answer (List Row)
analyse items request text = contribution_of request (run items text)
