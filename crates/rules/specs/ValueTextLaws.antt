-- The words of proofs/ValueTextLaws.antt.
use Rattle.std.specs.Prelude.{◌≡◌, Bool, true, false, cond, ◌&&◌}
use mathlib.Core.List.{List, [], ◌∷◌}
use Rattle.std.proofs.Math.Option.{some}
use Rattle.rules.specs.ValueRows.{ValueRow}
use Rattle.rules.specs.ValueRowTests.{Level, is_value_row, levels_after, lawful_value_rows}
use Rattle.rules.specs.ValueTexts.{EntityRead, StoreRead, ValueRead, field_level, may_come}

-- the levels after rows, and whether each row is of its form and may come
unfoldable pub levels_past : List Level → List ValueRow → List Level
levels_past levels [] = levels
levels_past levels (x ∷ rows) = levels_past (levels_after 1 levels x) rows

unfoldable pub may_pass : List Level → List ValueRow → Bool
may_pass levels [] = true
may_pass levels (x ∷ rows) =
    let rest : Bool = may_pass (levels_after 1 levels x) rows in
    cond (is_value_row x && may_come levels x) rest false

-- the rows so far may pass, and come to the levels
abbrev pub Came : ValueRead → Type 0
Came sofar = (may_pass field_level sofar.rows ≡ true) × (sofar.levels ≡ levels_past field_level sofar.rows)

-- what holds of every entity
unfoldable pub Every : (EntityRead → Type 0) → List EntityRead → Type 0
Every P [] = Unit
Every P (e ∷ es) = P e × Every P es

abbrev pub CameEntity : EntityRead → Type 0
CameEntity e = Came e.value

-- the rows of each entity so far may pass
abbrev pub CameStore : StoreRead → Type 0
CameStore sofar = Every CameEntity sofar.earlier × ((e : EntityRead) → sofar.last ≡ some e → CameEntity e)

-- the attributes of each entity of an accepted store pass the test of rows
abbrev pub LawfulEntity : EntityRead → Type 0
LawfulEntity e = lawful_value_rows e.value.rows ≡ true
