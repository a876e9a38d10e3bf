-- Where a schema has come to after some lines, within its limits, for the contracts of `known`.
use Rattle.std.specs.Prelude.{ℕ, ◌+◌, ◌*◌, ◌≤◌, false, cond, ◌≡◌, eqb}
use Rattle.rules.specs.Schema.{Known}
use Rattle.schema.specs.declared.known.Known.{Known as Kept}

abbrev pub known_for : Kept → Known
known_for kept = record {
  section = kept.section;
  lines = kept.lines;
  least = kept.least;
  types = kept.types;
  room = kept.room;
  field = kept.field;
  bound = kept.bound;
}

-- how many lines there are at most in the sections up to one, with so many lines of that one
abbrev pub most_lines : ℕ → ℕ → ℕ
most_lines section lines =
    cond (eqb section 0) (65 * lines)
    (cond (eqb section 1) (66560 + 65 * lines) (cond (eqb section 2) (133120 + lines) (141312 + lines)))

-- what is known stays within the limits
pub record Bounded (known : Known) : Type 0 where
  pub in_section : known.section ≤ 3
  pub few_lines : known.lines ≤ 8192
  pub few_others : eqb known.section 2 ≡ false → known.lines ≤ 1024
  pub few_types : known.types ≤ 1024
  pub in_types : known.section ≡ 0 → known.types ≡ known.lines
