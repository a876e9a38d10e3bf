-- Merges of rows that the checker computes.
use Rattle.std.specs.Prelude.{ℕ, ◌≡◌, refl, List, [], ◌∷◌}
use Rattle.std.proofs.Common.{arith}
use Rattle.std.proofs.Math.Option.{Option, none, some}
use Rattle.rules.specs.Tries.{next, same_list}
use Rattle.rules.specs.Listing.{◌>>=◌}
use Rattle.rules.specs.Values.{
  Value,
  plain,
  entity_id,
  set_of,
  record_of,
  element,
  no_element,
  Attributes,
  no_attribute,
  attribute,
  put_attribute,
  merged_attributes,
  spelled,
}
use Rattle.rules.specs.ValueRows.{ValueRow, value_row, value_rows, attribute_rows, merge_right, merge_onto, merge_rows, Past, Ascending}

abbrev pass : Attributes → Attributes → Option (List ValueRow)
pass a b = merge_rows none (attribute_rows 0 a) (attribute_rows 0 b)

abbrev one : ℕ → Value → Attributes
one f value = attribute f value no_attribute

abbrev two : Value → Value → Value
two v w = set_of (element v (element w no_element))

-- nested records
abbrev left : Attributes
left = attribute 1 (plain 10) (one 3 (record_of (attribute 5 (entity_id 7) (one 9 (plain 1)))))

abbrev right : Attributes
right = attribute 2 (plain 20) (attribute 3 (record_of (one 6 (plain 8))) (one 4 (plain 0)))

nested :
    pass left right
    ≡ some (
    value_row 0 1 0 10
    ∷ value_row 0 2 0 20
    ∷ value_row 0 3 4 0
    ∷ value_row 1 5 2 7
    ∷ value_row 1 6 0 8
    ∷ value_row 1 9 0 1
    ∷ value_row 0 4 0 0
    ∷ []
    )
unfolding next value_rows merge_right merge_onto merge_rows
nested = refl

nested_same : pass left right ≡ (merged_attributes left right >>= (λ m. some (attribute_rows 0 m)))
unfolding next value_rows merge_right merge_onto merge_rows put_attribute merged_attributes spelled same_list
nested_same = refl

-- the law applies to them
left_ascends : Ascending left
unfolding Ascending Past
left_ascends = (tt, (omega arith, tt), ((tt, (omega arith, tt), (tt, tt, tt)), tt, tt))

-- a conflict, of numbers, of kinds
conflict : pass (one 1 (record_of (one 2 (plain 3)))) (one 1 (record_of (one 2 (plain 4)))) ≡ none
unfolding next value_rows merge_right merge_onto merge_rows
conflict = refl

other_kind : pass (one 1 (plain 0)) (one 1 (record_of no_attribute)) ≡ none
unfolding next value_rows merge_right merge_onto merge_rows
other_kind = refl

-- equal sets, and a field after them that one side alone has
equal_sets :
    pass (attribute 1 (two (plain 3) (record_of (one 2 (plain 4)))) (one 5 (plain 6))) (one 1 (two (plain 3) (record_of (one 2 (plain 4)))))
    ≡ some (value_row 0 1 3 0 ∷ value_row 1 0 0 3 ∷ value_row 1 1 4 0 ∷ value_row 2 2 0 4 ∷ value_row 0 5 0 6 ∷ [])
unfolding next value_rows merge_right merge_onto merge_rows
equal_sets = refl

-- one element more, on either side
more_left : pass (one 1 (two (plain 3) (plain 4))) (one 1 (set_of (element (plain 3) no_element))) ≡ none
unfolding next value_rows merge_right merge_onto merge_rows
more_left = refl

more_right : pass (one 1 (set_of (element (plain 3) no_element))) (attribute 1 (two (plain 3) (plain 4)) (one 2 (plain 0))) ≡ none
unfolding next value_rows merge_right merge_onto merge_rows
more_right = refl

-- a record inside a set with another field
other_field :
    pass (one 1 (two (plain 3) (record_of (one 2 (plain 4))))) (one 1 (two (plain 3) (record_of (attribute 2 (plain 4) (one 5 (plain 6)))))) ≡ none
unfolding next value_rows merge_right merge_onto merge_rows
other_field = refl

-- a set that one side alone has
lone_set : pass (one 1 (two (plain 3) (plain 4))) no_attribute ≡ some (value_row 0 1 3 0 ∷ value_row 1 0 0 3 ∷ value_row 1 1 0 4 ∷ [])
unfolding next value_rows merge_right merge_onto merge_rows
lone_set = refl
