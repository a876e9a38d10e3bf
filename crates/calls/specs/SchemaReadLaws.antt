-- The words of proofs/SchemaReadLaws.antt.
use Rattle.std.specs.Prelude.{ℕ, Bool, true, cond, leb, ltb, eqb}
use Rattle.rules.specs.Schema.{set_type, entity_type, entity_line}

-- the number that stands in an item, by its tag
abbrev pub is_value : ℕ → ℕ → Bool
is_value tag value =
    cond (eqb tag entity_type) (ltb value 131071)
    (cond (eqb tag set_type) true (cond (leb tag entity_line) (eqb value 0) (leb tag 14)))
