-- Runs that pass the test and runs that do not, and a walk over rows.
use Rattle.std.specs.Prelude.{◌≡◌, refl, true, false, List, [], ◌∷◌}
use Rattle.rules.specs.Tries.{Row, step_of}
use Rattle.rules.specs.Listing.{read}
use Rattle.rules.specs.Values.{plain, entity_id, set_of, record_of, element, no_element, Attributes, no_attribute, attribute}
use Rattle.rules.specs.ValueRows.{ValueRow, value_row, value_rows, attribute_rows}
use Rattle.rules.specs.ValueRowTests.{attributes_from, inside_value, beyond_value, earlier_rows, passes, lawful_value_rows}
use Rattle.rules.specs.Loading.{yielded, ancestor, bad, has_child}
use Rattle.rules.specs.WalkRows.{field_row, ids_at, kept_rows_at, walk_rows, remaining_rows}

-- a record with a set of two records, and a field after it
abbrev some_fields : Attributes
some_fields =
    attribute 1 (plain 10)
    (attribute 4
    (set_of (element (record_of (attribute 2 (entity_id 7) no_attribute)) (element (record_of (attribute 2 (entity_id 9) (attribute 3 (set_of no_element) no_attribute))) no_element)))
    (attribute 9 (record_of no_attribute) no_attribute))

abbrev run : List ValueRow
run =
    value_row 1 1 0 10
    ∷ value_row 1 4 3 0
    ∷ value_row 2 0 4 0
    ∷ value_row 3 2 2 7
    ∷ value_row 2 1 4 0
    ∷ value_row 3 2 2 9
    ∷ value_row 3 3 3 0
    ∷ value_row 1 9 4 0
    ∷ []

rows_are : attribute_rows 1 some_fields ≡ run
unfolding value_rows
rows_are = refl

read_is : attributes_from 1 run ≡ some_fields
unfolding attributes_from
read_is = refl

passed : lawful_value_rows run ≡ true
unfolding passes inside_value beyond_value earlier_rows
passed = refl

empty : lawful_value_rows [] ≡ true
unfolding passes
empty = refl

-- a run that another begins with comes first, and not after it
shorter_first : lawful_value_rows (value_row 1 0 3 0 ∷ value_row 2 0 3 0 ∷ value_row 2 1 3 0 ∷ value_row 3 0 0 5 ∷ []) ≡ true
unfolding passes inside_value beyond_value earlier_rows
shorter_first = refl

longer_first : lawful_value_rows (value_row 1 0 3 0 ∷ value_row 2 0 3 0 ∷ value_row 3 0 0 5 ∷ value_row 2 1 3 0 ∷ []) ≡ false
unfolding passes inside_value beyond_value earlier_rows
longer_first = refl

-- equal elements
twice : lawful_value_rows (value_row 1 0 3 0 ∷ value_row 2 0 2 5 ∷ value_row 2 1 2 5 ∷ []) ≡ false
unfolding passes inside_value beyond_value earlier_rows
twice = refl

-- the second element keyed 2; a name that stays; names that descend
wrong_place : lawful_value_rows (value_row 1 0 3 0 ∷ value_row 2 0 2 5 ∷ value_row 2 2 2 6 ∷ []) ≡ false
unfolding passes inside_value beyond_value earlier_rows
wrong_place = refl

same_name : lawful_value_rows (value_row 1 3 0 5 ∷ value_row 1 3 0 6 ∷ []) ≡ false
unfolding passes
same_name = refl

-- two deeper; below a plain value; at depth 0; a set with a number; kind 5; a name and a number out of range
too_deep : lawful_value_rows (value_row 1 0 4 0 ∷ value_row 3 0 0 1 ∷ []) ≡ false
unfolding passes
too_deep = refl

below_plain : lawful_value_rows (value_row 1 0 0 1 ∷ value_row 2 0 0 1 ∷ []) ≡ false
unfolding passes
below_plain = refl

at_zero : lawful_value_rows (value_row 0 0 0 1 ∷ []) ≡ false
unfolding passes
at_zero = refl

set_number : lawful_value_rows (value_row 1 0 3 1 ∷ []) ≡ false
unfolding passes
set_number = refl

kind_five : lawful_value_rows (value_row 1 0 5 0 ∷ []) ≡ false
unfolding passes
kind_five = refl

name_range : lawful_value_rows (value_row 1 65536 0 0 ∷ []) ≡ false
unfolding passes
name_range = refl

number_range : lawful_value_rows (value_row 1 65535 0 65536 ∷ []) ≡ false
unfolding passes
number_range = refl

-- A walk below a root: field 4's field 2 is an entity, field 7 is absent, field 9 is a marked set of two entities.
abbrev nodes : List Row
nodes = read 1 (step_of 1 0) false ∷ read 2 4 false ∷ read 3 2 false ∷ read 2 7 false ∷ read 2 9 true ∷ read 1 (step_of 3 0) false ∷ []

abbrev attributes : List ValueRow
attributes = value_row 1 4 4 0 ∷ value_row 2 1 0 3 ∷ value_row 2 2 2 7 ∷ value_row 1 9 3 0 ∷ value_row 2 0 2 5 ∷ value_row 2 1 2 6 ∷ []

met_there :
    remaining_rows nodes 0 attributes ≡ yielded (record { id = 7; node = 2 }) ∷ ancestor 5 ∷ ancestor 6 ∷ []
unfolding field_row ids_at kept_rows_at walk_rows has_child
met_there = refl

-- the field 4 of a node that goes on is plain: 14
bad_there : remaining_rows nodes 0 (value_row 1 4 0 8 ∷ []) ≡ bad ∷ []
unfolding field_row ids_at kept_rows_at walk_rows has_child
bad_there = refl
