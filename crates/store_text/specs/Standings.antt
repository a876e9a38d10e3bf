-- By what the next line of a store is judged, for the contracts of `taking`.
use Rattle.std.specs.Prelude.{ℕ, ◌+◌, ◌^◌, cond, List, [], leb, ltb, take, Option as Maybe, Some, None}
use Rattle.std.proofs.Math.Option.{Option, none, some}
use Rattle.rules.specs.ValueRows.{ValueRow}
use Rattle.rules.specs.ValueRowTests.{Level, levels_after}
use Rattle.rules.specs.ValueTexts.{StoreLine, entity_line, parent_line, ancestor_line, attribute_line, field_level, may_come}
use Rattle.values.specs.ValueWords.{value_word}
use Rattle.values.specs.Lawful.{levels_in}
use Rattle.store_text.specs.declared.taking.Standing.{Standing}
use Rattle.store_text.specs.Words.{parent_word, ancestor_word}

-- The word of the line before, the least id that the next entity may have, and the levels at which a row may come.
pub record StoreSofar : Type 0 where
  pub last : ℕ
  pub next : ℕ
  pub levels : List Level

abbrev pub standing : ℕ → ℕ → List Level → StoreSofar
standing last next levels = record { last = last; next = next; levels = levels }

-- before the first line nothing but an entity may come: it is as behind a row, with no level open
abbrev pub rows_from : ℕ
rows_from = 2 ^ 35

abbrev pub at_start : StoreSofar
at_start = standing rows_from 0 []

abbrev pub id_after : StoreSofar → ℕ → Option StoreSofar
id_after s word = cond (ltb s.last word) (some (standing word s.next s.levels)) none

abbrev pub row_after : ℕ → List Level → ValueRow → Option StoreSofar
row_after next levels x = cond (may_come levels x) (some (standing (value_word x) next (levels_after 1 levels x))) none

-- what a line comes to, if it may come
abbrev pub standing_after : StoreSofar → StoreLine → Option StoreSofar
standing_after s (entity_line id) = cond (leb s.next id) (some (standing id (id + 1) field_level)) none
standing_after s (parent_line id) = id_after s (parent_word id)
standing_after s (ancestor_line id) = id_after s (ancestor_word id)
standing_after s (attribute_line x) = row_after s.next s.levels x

abbrev pub standing_behind : StoreSofar → Option StoreLine → Option StoreSofar
standing_behind s none = none
standing_behind s (some said) = standing_after s said

-- what was taken: the levels are the open ones of the words that keep them
abbrev pub took_standing : Maybe Standing → List ℕ → Option StoreSofar
took_standing (Some s) levels = some (standing s.last s.next (levels_in (take s.levels levels)))
took_standing None levels = none

abbrev pub took_id : Standing → ℕ → Maybe Standing
took_id s word = cond (ltb s.last word) (Some (record { last = word; next = s.next; levels = s.levels })) None

abbrev pub open_in : Maybe Standing → ℕ
open_in (Some s) = s.levels
open_in None = 0
