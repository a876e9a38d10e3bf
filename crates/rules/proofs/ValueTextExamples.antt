-- Worked examples of the texts of values (ValueTexts), which the checker computes.
use Rattle.std.specs.Prelude.{ℕ, ◌≡◌, refl, List, [], ◌∷◌, map}
use Rattle.rules.specs.Numbers.{accepted, refused, and_then}
use Rattle.rules.specs.Text.{bytes, parted, number_from, decimal_up_to}
use Rattle.rules.specs.Lines.{fold_lines}
use Rattle.rules.specs.Listing.{place_in}
use Rattle.rules.specs.ValueRows.{ValueRow, value_row}
use Rattle.rules.specs.ValueRowTests.{inside_value, beyond_value, earlier_rows}
use Rattle.rules.specs.ValueTexts.{
  value_row_of,
  unordered,
  least_of,
  read_value,
  asked_of,
  read_request,
  store_line_of,
  is_above,
  unordered_in,
  EntityRead,
  read_store,
}

-- docs/FORMS.md's example; no row; a set of two sets, the shorter first
read_values :
    map (λ text. read_value text)
    (bytes "V\t1\t3\tn\t17\nV\t1\t5\tr\t0\nV\t2\t1\te\t42\nV\t2\t2\ts\t0\nV\t3\t0\te\t7\nV\t3\t1\te\t9\n"
    ∷ bytes ""
    ∷ bytes "V\t1\t0\ts\t0\nV\t2\t0\ts\t0\nV\t2\t1\ts\t0\nV\t3\t0\tn\t5\nV\t1\t65535\tx\t65535\n"
    ∷ [])
    ≡ accepted
    (value_row 1 3 0 17 ∷ value_row 1 5 4 0 ∷ value_row 2 1 2 42 ∷ value_row 2 2 3 0 ∷ value_row 3 0 2 7 ∷ value_row 3 1 2 9 ∷ [])
    ∷ accepted []
    ∷ accepted
    (value_row 1 0 3 0 ∷ value_row 2 0 3 0 ∷ value_row 2 1 3 0 ∷ value_row 3 0 0 5 ∷ value_row 1 65535 1 65535 ∷ [])
    ∷ []
unfolding parted number_from decimal_up_to place_in fold_lines value_row_of unordered least_of inside_value beyond_value earlier_rows
read_values = refl

-- Damaged lines: another letter; a field less; one more; a kind in the other case; a number for a set; a 0 in front; too large a key; no LF at
-- the end; an empty line.
not_of_form :
    map (λ text. read_value text)
    (bytes "v\t1\t3\tn\t17\n"
    ∷ bytes "V\t1\t3\tn\n"
    ∷ bytes "V\t1\t3\tn\t17\t0\n"
    ∷ bytes "V\t1\t3\tN\t17\n"
    ∷ bytes "V\t1\t3\tn\t17\nV\t1\t4\ts\t1\n"
    ∷ bytes "V\t1\t3\tn\t07\n"
    ∷ bytes "V\t1\t65536\tn\t7\n"
    ∷ bytes "V\t1\t3\tn\t17\nV\t1\t4\ts\t0"
    ∷ bytes "V\t1\t3\tn\t17\n\n"
    ∷ [])
    ≡ refused 1 0
    ∷ refused 1 0
    ∷ refused 1 0
    ∷ refused 1 0
    ∷ refused 1 1
    ∷ refused 1 0
    ∷ refused 1 0
    ∷ refused 1 1
    ∷ refused 1 1
    ∷ []
unfolding parted number_from decimal_up_to place_in fold_lines value_row_of unordered least_of inside_value beyond_value earlier_rows
not_of_form = refl

-- Lines that may not come: at depth 0; at depth 2 first; below a plain value; two deeper; a name twice; names that descend; elements keyed from
-- 1; a place left out.
out_of_place :
    map (λ text. read_value text)
    (bytes "V\t0\t3\tn\t17\n"
    ∷ bytes "V\t2\t3\tn\t17\n"
    ∷ bytes "V\t1\t3\tn\t17\nV\t2\t0\tn\t1\n"
    ∷ bytes "V\t1\t3\tr\t0\nV\t3\t0\tn\t1\n"
    ∷ bytes "V\t1\t3\tn\t17\nV\t1\t3\tn\t18\n"
    ∷ bytes "V\t1\t3\tn\t17\nV\t1\t2\tn\t18\n"
    ∷ bytes "V\t1\t3\ts\t0\nV\t2\t1\tn\t18\n"
    ∷ bytes "V\t1\t3\ts\t0\nV\t2\t0\tn\t18\nV\t2\t2\tn\t19\n"
    ∷ [])
    ≡ refused 1 0
    ∷ refused 1 0
    ∷ refused 1 1
    ∷ refused 1 1
    ∷ refused 1 1
    ∷ refused 1 1
    ∷ refused 1 1
    ∷ refused 1 2
    ∷ []
unfolding parted number_from decimal_up_to place_in fold_lines value_row_of unordered least_of inside_value beyond_value earlier_rows
out_of_place = refl

-- Elements that are not above the one before: equal; descending; the longer first; inside an element that itself is too low for the next, the
-- inner one at its earlier line; a later line that may not come is told first.
elements_unordered :
    map (λ text. read_value text)
    (bytes "V\t1\t3\ts\t0\nV\t2\t0\te\t5\nV\t2\t1\te\t5\n"
    ∷ bytes "V\t1\t3\ts\t0\nV\t2\t0\te\t5\nV\t2\t1\tx\t9\nV\t1\t4\tn\t0\n"
    ∷ bytes "V\t1\t3\ts\t0\nV\t2\t0\ts\t0\nV\t3\t0\tn\t5\nV\t2\t1\ts\t0\n"
    ∷ bytes "V\t1\t3\ts\t0\nV\t2\t0\ts\t0\nV\t3\t0\tn\t5\nV\t3\t1\tn\t4\nV\t2\t1\tn\t0\n"
    ∷ bytes "V\t1\t3\ts\t0\nV\t2\t0\te\t5\nV\t2\t1\te\t5\nV\t2\t3\te\t7\n"
    ∷ [])
    ≡ refused 1 2
    ∷ refused 1 2
    ∷ refused 1 3
    ∷ refused 1 3
    ∷ refused 1 3
    ∷ []
unfolding parted number_from decimal_up_to place_in fold_lines value_row_of unordered least_of inside_value beyond_value earlier_rows
elements_unordered = refl

-- A request, and without fields; then no line, no `Q` line, one without LF, an id too large, a context's line and an element of it.
read_requests :
    map (λ text. read_request text)
    (bytes "Q\t10\t500\t20\t7\t9\nV\t1\t3\tn\t17\n"
    ∷ bytes "Q\t0\t0\t1\t7\t65535\n"
    ∷ bytes ""
    ∷ bytes "V\t1\t3\tn\t17\n"
    ∷ bytes "Q\t10\t500\t20\t7\t9"
    ∷ bytes "Q\t10\t500\t20\t7\t65536\n"
    ∷ bytes "Q\t10\t500\t20\t7\t9\nV\t2\t3\tn\t17\n"
    ∷ bytes "Q\t10\t500\t20\t7\t9\nV\t1\t3\ts\t0\nV\t2\t0\tn\t1\nV\t2\t1\tn\t1\n"
    ∷ bytes "Q\t10\t500\t20\t7\t9\nQ\t10\t500\t20\t7\t9\n"
    ∷ [])
    ≡ accepted (record { asked = record { type = 42982440980; principal = 7; resource = 9 }; context = value_row 1 3 0 17 ∷ [] })
    ∷ accepted (record { asked = record { type = 1; principal = 7; resource = 65535 }; context = [] })
    ∷ refused 1 0
    ∷ refused 1 0
    ∷ refused 1 0
    ∷ refused 1 0
    ∷ refused 1 1
    ∷ refused 1 3
    ∷ refused 1 1
    ∷ []
unfolding parted number_from decimal_up_to place_in fold_lines value_row_of asked_of unordered least_of inside_value beyond_value earlier_rows
read_requests = refl

-- what an entity of a store is read as
abbrev said : EntityRead → ℕ × List ℕ × List ℕ × List ValueRow
said e = (e.id, e.parents, e.ancestors, e.value.rows)

-- A store of two, and none; then a parent before any entity, an entity twice, parents that descend, a parent behind an ancestor and behind a row,
-- an element of the second entity, and a later line that may not come first.
read_stores :
    map (λ text. and_then (read_store text) (λ es. accepted (map said es)))
    (bytes "E\t4\nP\t1\nP\t2\nU\t1\nU\t2\nU\t9\nV\t1\t3\te\t17\nE\t17\n"
    ∷ bytes ""
    ∷ bytes "P\t1\n"
    ∷ bytes "E\t4\nE\t4\n"
    ∷ bytes "E\t4\nP\t2\nP\t1\n"
    ∷ bytes "E\t4\nU\t2\nP\t1\n"
    ∷ bytes "E\t4\nV\t1\t3\te\t17\nP\t1\n"
    ∷ bytes "E\t4\nP\t1\nV\t1\t3\te\t17\nE\t5\nU\t1\nV\t1\t3\ts\t0\nV\t2\t0\tn\t1\nV\t2\t1\tn\t1\n"
    ∷ bytes "E\t4\nV\t1\t3\ts\t0\nV\t2\t0\tn\t1\nV\t2\t1\tn\t1\nE\t3\n"
    ∷ [])
    ≡ accepted
    ((4, 1 ∷ 2 ∷ [], 1 ∷ 2 ∷ 9 ∷ [], value_row 1 3 2 17 ∷ []) ∷ (17, [], [], []) ∷ [])
    ∷ accepted []
    ∷ refused 1 0
    ∷ refused 1 1
    ∷ refused 1 2
    ∷ refused 1 2
    ∷ refused 1 2
    ∷ refused 1 7
    ∷ refused 1 4
    ∷ []
unfolding parted number_from decimal_up_to place_in fold_lines value_row_of store_line_of is_above unordered_in unordered least_of inside_value beyond_value earlier_rows
read_stores = refl
