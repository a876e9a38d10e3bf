-- Laws of taking the lines of a store (Standings). No contract cites this file.
use Rattle.std.specs.Prelude.{ℕ, ◌+◌, ◌≤◌, ◌<◌, List, [], ◌∷◌, ◌≡◌, refl, length, take, set, Option as Maybe}
use Rattle.std.proofs.Common.{arith, lt-ltb, le-ltb}
use Rattle.rules.specs.Facts.{compared}
use Rattle.rules.specs.ValueTexts.{field_level}
use Rattle.values.specs.Lawful.{levels_in}
use Rattle.store_text.specs.declared.taking.Standing.{Standing}
use Rattle.store_text.specs.Standings.{standing, id_after, took_standing, took_id, open_in}

-- ---- what a line comes to

-- the level of an entity's fields
pub first_level : (levels : List ℕ) → 0 < length levels → levels_in (take 1 (set levels 0 0)) ≡ field_level
first_level [] h = absurd (omega arith)
first_level (x ∷ levels) h = refl

-- a parent's or an ancestor's word
pub took-id : (before : Standing) (word : ℕ) (levels : List ℕ) {r : Maybe Standing} → r ≡ took_id before word →
    (took_standing r levels ≡ id_after (standing before.last before.next (levels_in (take before.levels levels))) word) × (open_in r ≤ before.levels + 1)
took-id before word levels {r} e =
    compared before.last word
    (λ h. rw (e, lt-ltb before.last word h) (refl, omega arith))
    (λ h. rw (e, le-ltb before.last word h) (refl, omega arith))
