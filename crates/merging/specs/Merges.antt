-- What a merge over words answers and writes (`merge_values`, `merge_entities`), and what each turn of its pass does.
use Rattle.std.specs.Prelude.{ℕ, ◌+◌, ◌≤◌, ◌<◌, ◌≡◌, cond, List, map, length, take, drop, get_or}
use Rattle.std.specs.Prelude.{Option as Maybe, Some, None}
use Rattle.std.proofs.Math.Option.{Option, none, some}
use Rattle.std.proofs.lemmas.List.Edits.{sets}
use Rattle.rules.specs.Tries.{Next, first, second, same, same_list}
use Rattle.rules.specs.ValueRows.{ValueRow, onto_rows, merge_rows}
use Rattle.rules.proofs.ValueRowLaws.{Comes}
use Rattle.values.specs.ValueWords.{depth_from, key_from, value_row_in, value_rows_of, value_word}
use Rattle.std.specs.declared.cmp.Ordering.{Ordering}
use Rattle.std.specs.declared.cmp.Ordering.TheVariants.{Less, Equal, Greater}
use Rattle.merging.specs.declared.Turn.{Turn}

-- The two differ: nothing before the place `to` is changed.
pub record WroteDifferent (out : List ℕ) (to : ℕ) (out' : List ℕ) (r : Maybe ℕ) : Type 0 where
  pub answer : r ≡ None
  pub front : take to out' ≡ take to out
  pub size : length out' ≡ length out

-- The merged rows' words are written from the place `to` on, and the answer is the place after them.
pub record WroteRows (rows : List ValueRow) (out : List ℕ) (to : ℕ) (out' : List ℕ) (r : Maybe ℕ) : Type 0 where
  pub answer : r ≡ Some (to + length rows)
  pub text : out' ≡ sets out to (map value_word rows)

-- What a merge comes to, if anything, is written.
abbrev pub MergedInto : Option (List ValueRow) → List ℕ → ℕ → List ℕ → Maybe ℕ → Type 0
MergedInto none out to out' r = WroteDifferent out to out' r
MergedInto (some rows) out to out' r = WroteRows rows out to out' r

-- The rows of `merged_entities`' attributes: the parents must be equal.
abbrev pub merged_entity_rows : List ℕ → List ℕ → List ℕ → List ℕ → Option (List ValueRow)
merged_entity_rows left_parents left right_parents right =
    cond (same_list left_parents right_parents) (merge_rows none (value_rows_of left) (value_rows_of right)) none

-- The set that the pass is inside, by its depth.
abbrev pub inside_in : Maybe ℕ → Option ℕ
inside_in None = none
inside_in (Some depth) = some depth

-- how two rows are ordered, by which comes next
abbrev pub order_of : Next → Ordering
order_of first = Less
order_of second = Greater
order_of same = Equal

-- Where i and j rows of the runs are passed: the left run has the next row, or the right, or both.
abbrev pub Chosen : List ℕ → List ℕ → ℕ → ℕ → Ordering → Type 0
Chosen left right i j Less = (i < length left) × Comes (value_row_in (get_or left i 0)) (value_rows_of (drop j right))
Chosen left right i j Greater = (j < length right) × Comes (value_row_in (get_or right j 0)) (value_rows_of (drop i left))
Chosen left right i j Equal =
    (i < length left)
    × (j < length right)
    × (depth_from (get_or left i 0) ≡ depth_from (get_or right j 0))
    × (key_from (get_or left i 0) ≡ key_from (get_or right j 0))

-- A row that one side alone has is taken outside a set, and so many rows are passed then; inside one the two differ.
abbrev pub alone_turn : ℕ → ℕ → ℕ → Option ℕ → Maybe Turn
alone_turn word left right none = Some (record { word = word; left = left; right = right; inside = None })
alone_turn word left right (some depth) = None

-- what the pass gives for the rows that are left
abbrev pub rest_of : List ℕ → List ℕ → ℕ → ℕ → Maybe ℕ → Option (List ValueRow)
rest_of left right i j inside = merge_rows (inside_in inside) (value_rows_of (drop i left)) (value_rows_of (drop j right))

-- A turn takes a row: it is in front of what the pass gives for the rows that are left then.
pub record RowsTaken (left right : List ℕ) (i j : ℕ) (inside : Maybe ℕ) (word i' j' : ℕ) (inside' : Maybe ℕ) : Type 0 where
  pub rows : rest_of left right i j inside ≡ onto_rows (value_row_in word) (rest_of left right i' j' inside')
  pub in_left : i' ≤ length left
  pub in_right : j' ≤ length right
  pub more : i + j < i' + j'

abbrev pub MergeTurned : List ℕ → List ℕ → ℕ → ℕ → Maybe ℕ → Maybe Turn → Type 0
MergeTurned left right i j inside (Some turn) = RowsTaken left right i j inside turn.word turn.left turn.right turn.inside
MergeTurned left right i j inside None = rest_of left right i j inside ≡ none
