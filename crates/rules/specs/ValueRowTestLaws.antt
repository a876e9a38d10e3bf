-- The words of proofs/ValueRowTestLaws.antt.
use Rattle.std.specs.Prelude.{ℕ, suc, ◌+◌, ◌-◌, ◌≤◌, ◌<◌, ◌≡◌, Bool, true, false, List, [], ◌∷◌, ◌++◌, length, take, get_or}
use Rattle.rules.specs.Tries.{ids}
use Rattle.rules.specs.Values.{Value, Attributes, merged_values, merged_attributes}
use Rattle.rules.specs.ValueRows.{ValueRow, value_row, element_rows, attribute_rows}
use Rattle.rules.specs.ValueRowLaws.{Every}
use Rattle.rules.specs.ValueRowTests.{value_from, elements_from, attributes_from, Level, level, fits_level, level_at, in_turn, level_below, passes, Proper, ProperElements, ProperFields}

abbrev pub read_value : ℕ → ValueRow → List ValueRow → Value
read_value d x rows = value_from x (elements_from (suc d) rows) (attributes_from (suc d) rows)

abbrev pub deeper : ValueRow → ValueRow
deeper x = value_row (suc x.depth) x.key x.kind x.number

abbrev pub deepen : List ValueRow → List ValueRow
deepen [] = []
deepen (x ∷ a) = deeper x ∷ deepen a

abbrev pub group_rows : Bool → ℕ → ℕ → List ValueRow → List ValueRow
group_rows true d n rows = element_rows d n (elements_from d rows)
group_rows false d n rows = attribute_rows d (attributes_from d rows)

abbrev pub parts : ℕ → List Level → List ValueRow → List ValueRow
parts d [] rows = []
parts d (l ∷ levels) rows = parts (suc d) levels rows ++ group_rows l.of_set d l.least rows

abbrev pub ProperGroup : Bool → ℕ → ℕ → List ValueRow → Type 0
ProperGroup true d n rows = ProperElements n (elements_from d rows)
ProperGroup false d n rows = ProperFields n (attributes_from d rows)

abbrev pub ProperParts : ℕ → List Level → List ValueRow → Type 0
ProperParts d [] rows = Unit
ProperParts d (l ∷ levels) rows = ProperParts (suc d) levels rows × ProperGroup l.of_set d l.least rows

-- what the test of a row says
pub record RowSays (x : ValueRow) : Type 0 where
  pub kinds : x.kind ≤ 4
  pub keys : x.key < ids
  pub numbers : x.kind < 3 → x.number < ids
  pub zeros : 3 ≤ x.kind → x.number ≡ 0

-- the levels that a row leaves, by the place of its own
abbrev pub after : ℕ → List Level → ValueRow → List Level
after place levels x = take place levels ++ (level (get_or levels place (level false 0)).of_set (suc x.key) ∷ level_below x)

-- what the test of a row among levels says
pub record ComesSays (d : ℕ) (levels : List Level) (x : ValueRow) (rows : List ValueRow) : Type 0 where
  pub says : RowSays x
  pub deep : x.depth ≡ d + (x.depth - d)
  pub short : x.depth - d < length levels
  pub fit : fits_level (level_at d levels x.depth) x ≡ true
  pub turn : in_turn (level_at d levels x.depth) x rows ≡ true

-- what comes after passes, however much is open below
abbrev pub Goes : ℕ → List Level → List ValueRow → Type 0
Goes base levels rows = (post : List Level) → passes base (levels ++ post) rows ≡ true

abbrev pub ValueStays : Value → Type 0
ValueStays v = (w : Value) → Proper v → Proper w → Every Proper (merged_values v w)

abbrev pub FieldsStay : Attributes → Type 0
FieldsStay p = (q : Attributes) (n : ℕ) → ProperFields n p → ProperFields n q → Every (ProperFields n) (merged_attributes p q)
