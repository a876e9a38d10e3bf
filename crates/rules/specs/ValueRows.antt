-- Values as runs of rows, and the merge of two values as one pass over two runs.
use Rattle.std.specs.Prelude.{ℕ, suc, ◌<◌, Bool, false, cond, ◌&&◌, List, [], ◌∷◌, ◌++◌, ltb, eqb}
use Rattle.std.proofs.Math.Option.{Option, none, some}
use Rattle.rules.specs.Tries.{Row, first, second, same, next}
use Rattle.rules.specs.Listing.{◌>>=◌}
use Rattle.rules.specs.Values.{
  Value,
  plain,
  extension,
  entity_id,
  set_of,
  record_of,
  Elements,
  no_element,
  element,
  Attributes,
  no_attribute,
  attribute,
}

-- A row for each value: how deep it lies, its name or its place in a set, its kind (0 plain, 1 extension, 2 entity, 3 set,
-- 4 record) and its number, 0 for sets and records.
pub record ValueRow : Type 0 where
  pub depth : ℕ
  pub key : ℕ
  pub kind : ℕ
  pub number : ℕ

abbrev pub set_kind : ℕ
set_kind = 3

abbrev pub record_kind : ℕ
record_kind = 4

abbrev pub value_row : ℕ → ℕ → ℕ → ℕ → ValueRow
value_row depth key kind number = record { depth = depth; key = key; kind = kind; number = number }

-- A value's own row, and then what is inside it, one deeper: fields keyed by name, elements by 0, 1, 2 ..
unfoldable mutual
  pub value_rows : ℕ → ℕ → Value → List ValueRow
  value_rows depth key (plain n) = value_row depth key 0 n ∷ []
  value_rows depth key (extension n) = value_row depth key 1 n ∷ []
  value_rows depth key (entity_id n) = value_row depth key 2 n ∷ []
  value_rows depth key (set_of elements) = value_row depth key set_kind 0 ∷ element_rows (suc depth) 0 elements
  value_rows depth key (record_of members) = value_row depth key record_kind 0 ∷ attribute_rows (suc depth) members

  pub element_rows : ℕ → ℕ → Elements → List ValueRow
  element_rows depth index no_element = []
  element_rows depth index (element value rest) = value_rows depth index value ++ element_rows depth (suc index) rest

  pub attribute_rows : ℕ → Attributes → List ValueRow
  attribute_rows depth no_attribute = []
  attribute_rows depth (attribute f value rest) = value_rows depth f value ++ attribute_rows depth rest

-- Two next rows come in the order of a trie's rows: the deeper first, at one depth the smaller key.
abbrev pub placed_row : ValueRow → Row
placed_row x = record { depth = x.depth; step = x.key; mark = false; type = none }

-- The pass is inside a set, known by its depth, or not. A row no deeper than the set ends it.
abbrev pub inside_at : Option ℕ → ValueRow → Option ℕ
inside_at none x = none
inside_at (some depth) x = cond (ltb depth x.depth) (some depth) none

-- A set's row that both sides have opens that set, unless it lies inside one.
abbrev pub opened : Option ℕ → ValueRow → Option ℕ
opened none x = cond (eqb x.kind set_kind) (some x.depth) none
opened (some depth) x = some depth

abbrev pub inside_after : Option ℕ → ValueRow → Option ℕ
inside_after inside x = opened (inside_at inside x) x

-- a row in front of what the rest of the pass gives
abbrev pub onto_rows : ValueRow → Option (List ValueRow) → Option (List ValueRow)
onto_rows x rest = rest >>= (λ rows. some (x ∷ rows))

-- A row that one side alone has is taken, but inside a set it is none: 13.
abbrev pub alone_row : Option ℕ → ValueRow → Option (List ValueRow) → Option (List ValueRow)
alone_row inside x rest = elim (inside_at inside x) [ none ↦ onto_rows x rest | some depth ↦ none ]

-- Where both have the row, kind and number must be equal.
abbrev pub agree_rows : ValueRow → ValueRow → Bool
agree_rows x y = eqb x.kind y.kind && eqb x.number y.number

abbrev pub both_rows : ValueRow → ValueRow → Option (List ValueRow) → Option (List ValueRow)
both_rows x y rest = cond (agree_rows x y) (onto_rows x rest) none

-- The pass: take the next row of either, again and again.
unfoldable pub merge_right : Option ℕ → List ValueRow → Option (List ValueRow)
merge_right inside [] = some []
merge_right inside (y ∷ b) = alone_row inside y (merge_right none b)

unfoldable pub merge_onto :
    ValueRow → (Option ℕ → List ValueRow → Option (List ValueRow)) → Option ℕ → List ValueRow → Option (List ValueRow)
merge_onto x rest inside [] = alone_row inside x (rest none [])
merge_onto x rest inside (y ∷ b) =
    elim (next (placed_row x) (placed_row y)) [
      | first ↦ alone_row inside x (rest none (y ∷ b))
      | second ↦ alone_row inside y (merge_onto x rest none b)
      | same ↦ both_rows x y (rest (inside_after inside x) b)
    ]

unfoldable pub merge_rows : Option ℕ → List ValueRow → List ValueRow → Option (List ValueRow)
merge_rows inside [] b = merge_right inside b
merge_rows inside (x ∷ a) b = merge_onto x (λ now. merge_rows now a) inside b

-- Field names ascend strictly, at every level of records. What is inside a set need not, for the pass.
unfoldable pub Past : ℕ → Attributes → Type 0
Past f no_attribute = Unit
Past f (attribute g value rest) = (f < g) × Past f rest

unfoldable mutual
  pub AscendingIn : Value → Type 0
  AscendingIn (plain n) = Unit
  AscendingIn (extension n) = Unit
  AscendingIn (entity_id n) = Unit
  AscendingIn (set_of elements) = Unit
  AscendingIn (record_of members) = Ascending members

  pub Ascending : Attributes → Type 0
  Ascending no_attribute = Unit
  Ascending (attribute f value rest) = AscendingIn value × Past f rest × Ascending rest
