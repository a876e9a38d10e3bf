-- Which runs of rows are the fields of a record, and the fields that such a run holds.
use Rattle.std.specs.Prelude.{ℕ, suc, ◌-◌, ◌≤◌, ◌<◌, ◌≡◌, Bool, true, false, cond, ◌&&◌, List, [], ◌∷◌, ◌++◌, leb, ltb, eqb, length, take, get_or}
use Rattle.rules.specs.Tries.{Next, first, second, same, ids}
use Rattle.rules.specs.Values.{Value, plain, extension, entity_id, set_of, record_of, Elements, no_element, element, Attributes, no_attribute, attribute}
use Rattle.rules.specs.ValueRows.{ValueRow, value_row, set_kind, record_kind, value_rows}

-- Reading a run: the elements, or the fields, that lie at a depth, up to a row above it. Deeper rows are inside the row before them.
abbrev pub value_from : ValueRow → Elements → Attributes → Value
value_from x elements members =
    cond (eqb x.kind 0) (plain x.number)
    (cond (eqb x.kind 1) (extension x.number)
    (cond (eqb x.kind 2) (entity_id x.number)
    (cond (eqb x.kind set_kind) (set_of elements) (record_of members))))

unfoldable mutual
  pub elements_from : ℕ → List ValueRow → Elements
  elements_from depth [] = no_element
  elements_from depth (x ∷ rows) =
      let rest : Elements = elements_from depth rows in
      let more : Elements = element (value_from x (elements_from (suc depth) rows) (attributes_from (suc depth) rows)) rest in
      cond (ltb x.depth depth) no_element (cond (eqb x.depth depth) more rest)

  pub attributes_from : ℕ → List ValueRow → Attributes
  attributes_from depth [] = no_attribute
  attributes_from depth (x ∷ rows) =
      let rest : Attributes = attributes_from depth rows in
      let more : Attributes = attribute x.key (value_from x (elements_from (suc depth) rows) (attributes_from (suc depth) rows)) rest in
      cond (ltb x.depth depth) no_attribute (cond (eqb x.depth depth) more rest)

-- A depth at which rows may come: whether they are elements of a set, and the least key that the next one may have.
pub record Level : Type 0 where
  pub of_set : Bool
  pub least : ℕ

abbrev pub level : Bool → ℕ → Level
level of_set least = record { of_set = of_set; least = least }

-- a row by itself
abbrev pub is_value_row : ValueRow → Bool
is_value_row x =
    leb x.kind record_kind
    && (ltb x.key ids && cond (ltb x.kind set_kind) (ltb x.number ids) (eqb x.number 0))

-- Names ascend strictly, and elements are keyed by 0, 1, 2 ..
abbrev pub fits_level : Level → ValueRow → Bool
fits_level at x = cond at.of_set (eqb x.key at.least) (leb at.least x.key)

-- What is inside a value: the rows behind its own that are deeper, and what comes after them.
unfoldable pub inside_value : ℕ → List ValueRow → List ValueRow
inside_value depth [] = []
inside_value depth (x ∷ rows) = let more : List ValueRow = x ∷ inside_value depth rows in cond (ltb depth x.depth) more []

unfoldable pub beyond_value : ℕ → List ValueRow → List ValueRow
beyond_value depth [] = []
beyond_value depth (x ∷ rows) = let more : List ValueRow = beyond_value depth rows in cond (ltb depth x.depth) more (x ∷ rows)

-- The order of values is the order of their rows: by the first row that differs, in depth, key, kind or number, and a run that
-- another begins with comes before it.
abbrev pub by_number : ℕ → ℕ → Next → Next
by_number m n otherwise = cond (ltb m n) first (cond (ltb n m) second otherwise)

abbrev pub by_row : ValueRow → ValueRow → Next
by_row x y =
    by_number x.depth y.depth
    (by_number x.key y.key (by_number x.kind y.kind (by_number x.number y.number same)))

abbrev pub is_first : Next → Bool → Bool
is_first first otherwise = true
is_first second otherwise = false
is_first same otherwise = otherwise

unfoldable pub earlier_rows : List ValueRow → List ValueRow → Bool
earlier_rows a [] = false
earlier_rows [] (y ∷ b) = true
earlier_rows (x ∷ a) (y ∷ b) = let rest : Bool = earlier_rows a b in is_first (by_row x y) rest

-- a row and the rows inside its value, its key aside
abbrev pub unkeyed : ValueRow → List ValueRow → List ValueRow
unkeyed x rows = value_row x.depth 0 x.kind x.number ∷ inside_value x.depth rows

-- An element comes before the next one of its set, if there is one.
abbrev pub ahead_of : ValueRow → List ValueRow → List ValueRow → Bool
ahead_of x rows [] = true
ahead_of x rows (y ∷ more) = cond (eqb x.depth y.depth) (earlier_rows (unkeyed x rows) (unkeyed y more)) true

abbrev pub in_turn : Level → ValueRow → List ValueRow → Bool
in_turn at x rows = cond at.of_set (ahead_of x rows (beyond_value x.depth rows)) true

-- The levels are those from the depth `base` on. A row comes at one of them.
abbrev pub level_at : ℕ → List Level → ℕ → Level
level_at base levels depth = get_or levels (depth - base) (level false 0)

abbrev pub comes : ℕ → List Level → ValueRow → List ValueRow → Bool
comes base levels x rows =
    leb base x.depth
    && (ltb (x.depth - base) (length levels)
    && (fits_level (level_at base levels x.depth) x && in_turn (level_at base levels x.depth) x rows))

-- It leaves the levels above it, its own, and one below it if it is a set or a record.
abbrev pub level_below : ValueRow → List Level
level_below x = cond (ltb x.kind set_kind) [] (level (eqb x.kind set_kind) 0 ∷ [])

abbrev pub levels_after : ℕ → List Level → ValueRow → List Level
levels_after base levels x =
    take (x.depth - base) levels ++ (level (level_at base levels x.depth).of_set (suc x.key) ∷ level_below x)

unfoldable pub passes : ℕ → List Level → List ValueRow → Bool
passes base levels [] = true
passes base levels (x ∷ rows) =
    let rest : Bool = passes base (levels_after base levels x) rows in
    cond (is_value_row x && comes base levels x rows) rest false

-- The test of a run: the fields of a record, at depth 1.
abbrev pub lawful_value_rows : List ValueRow → Bool
lawful_value_rows rows = passes 1 (level false 0 ∷ []) rows

-- What such a run holds: numbers and keys are in range, names ascend strictly, and so do the elements of a set.
unfoldable pub Earlier : Value → Elements → Type 0
Earlier value no_element = Unit
Earlier value (element other rest) = earlier_rows (value_rows 0 0 value) (value_rows 0 0 other) ≡ true

unfoldable mutual
  pub Proper : Value → Type 0
  Proper (plain n) = n < ids
  Proper (extension n) = n < ids
  Proper (entity_id n) = n < ids
  Proper (set_of elements) = ProperElements 0 elements
  Proper (record_of members) = ProperFields 0 members

  pub ProperElements : ℕ → Elements → Type 0
  ProperElements index no_element = Unit
  ProperElements index (element value rest) =
      (index < ids) × Proper value × Earlier value rest × ProperElements (suc index) rest

  pub ProperFields : ℕ → Attributes → Type 0
  ProperFields least no_attribute = Unit
  ProperFields least (attribute f value rest) = (least ≤ f) × (f < ids) × Proper value × ProperFields (suc f) rest
