-- Laws of the pass over a schema's words that finds its entity types, literals and actions. No contract cites this file.
use Rattle.std.specs.Prelude.{ℕ, ◌+◌, ◌-◌, ◌*◌, ◌/◌, ◌%◌, ◌^◌, ◌≤◌, ◌<◌, min, true, List, ◌≡◌, refl, length, take, drop, get_or, set}
use Rattle.std.proofs.Common.{add-one, arith, sym, ap, subst, ◌∙◌, length-take, length-drop, length-set, take_all, take-suc, take-suc-set, length-take-le}
use Rattle.rules.specs.Facts.{compared}
use Rattle.rules.specs.Schema.{entity_line, attribute_line, literal_line, unknown, lawful_items}
use Rattle.schema.specs.Items.{items_of, all_items, good_items}
use Rattle.rules.specs.Typing.{from_line}
use Rattle.words.specs.Keys.{searched}
use Rattle.std.specs.Prelude.{Ok}
use Rattle.type_table.specs.TypeTableLaws.{good_all, good_lawful}
use Rattle.node_types.specs.declared.places.Places.{Places}
use Rattle.node_types.specs.Named.{entity_place, EntityTable, PlacesFound}
use Rattle.node_types.specs.NamedLaws.{
  Border,
  before_literals,
  before_actions,
  up_to,
  up_inside,
  up_order,
  up_low,
  up_high,
  up_all,
  past_named,
  entity_table,
  table_more,
  table_other,
  entity_room,
  EntitySays,
  entity_searched,
}

-- ---- how far the lines up to a tag reach

-- among the words before a place
abbrev pub Reaches : ℕ → List ℕ → ℕ → ℕ → Type 0
Reaches n words reach at = reach ≡ min at (up_to n words)

module _ {n s : ℕ} (border : Border n s) (words : List ℕ) (at : ℕ) (good : good_items words ≡ true) (inside : at < length words) where
  -- the next word is one of them
  pub reaches_next : get_or words at 0 % 16 ≤ n → Reaches n words (at + 1) (at + 1)
  reaches_next low =
      compared at (up_to n words) (λ h. omega arith)
      (λ h. absurd (omega (arith, up_high border unknown words at (good_lawful words good) h inside)))

  -- the next word is not
  pub reaches_no_more : {reach : ℕ} → n < get_or words at 0 % 16 → Reaches n words reach at → Reaches n words reach (at + 1)
  reaches_no_more high so_far =
      compared at (up_to n words) (λ h. absurd (omega (arith, up_low n words at h))) (λ h. omega arith)

-- the literals and the actions stand where these end
pub placed :
    (words : List ℕ) (places : Places)
    → good_items words ≡ true
    → places.literals ≡ up_to attribute_line words
    → places.actions ≡ up_to literal_line words
    → PlacesFound words places
placed words places good literals actions = record {
  in_order = omega (arith, up_order attribute_line literal_line words (omega arith));
  inside = omega (arith, up_inside literal_line words);
  literals_named = λ key. rw (literals, actions) (past_named before_literals key unknown words all lawful);
  actions_named = λ key. rw (actions, ← up_to_end, ← up_all words all) (past_named before_actions key unknown words all lawful);
}
  where
    all : all_items words ≡ true
    all = good_all words good

    lawful : lawful_items unknown (items_of words) ≡ true
    lawful = good_lawful words good

    up_to_end : take (length words - up_to literal_line words) (drop (up_to literal_line words) words) ≡ drop (up_to literal_line words) words
    up_to_end =
        take_all (length words - up_to literal_line words) (drop (up_to literal_line words) words)
        (omega (arith, length-drop (up_to literal_line words) words))

-- ---- the table of entity types

-- those before a place are in it
pub record Tabling (words entities : List ℕ) (count at : ℕ) : Type 0 where
  pub long : length entities ≡ 1024
  pub few : count ≤ 1024
  pub there : take count entities ≡ entity_table 0 (take at words)

pub tabling_none : (words entities : List ℕ) → length entities ≡ 1024 → Tabling words entities 0 0
unfolding entity_table
tabling_none words entities h = record { long = h; few = omega arith; there = refl }

module _ {words entities : List ℕ} {count at : ℕ} (tabling : Tabling words entities count at) where
  module _ (inside : at < length words) where
    -- the next word is no entity type
    pub tabling_other : (get_or words at 0 % 16 ≡ entity_line → ⊥) → Tabling words entities count (at + 1)
    tabling_other other = record {
      long = tabling.long;
      few = tabling.few;
      there =
          rw (add-one, take-suc words at 0 inside)
          (tabling.there ∙ sym (table_other 0 (take at words) (get_or words at 0) other));
    }

    module _ (good : good_items words ≡ true) (kind : get_or words at 0 % 16 ≡ entity_line) where
      -- the next word is one, for which there is room
      pub tabling_room : count < 1024
      tabling_room =
          omega (
            arith,
            entity_room 0 unknown words at (good_lawful words good) inside kind,
            ap length tabling.there,
            length-take count entities,
            tabling.long,
            tabling.few,
          )

      pub tabling_next : {w : ℕ} → w ≡ get_or words at 0 / 2 ^ 40 * 2 ^ 40 + at → Tabling words (set entities count w) (count + 1) (at + 1)
      tabling_next {w} word =
          let place : get_or words at 0 / 2 ^ 40 * 2 ^ 40 + (0 + length (take at words)) ≡ w =
          omega (arith, length-take-le at words (omega arith)) in
          record {
            long = rw length-set tabling.long;
            few = omega (arith, tabling_room);
            there =
                rw (add-one count, take-suc-set entities count w (omega (arith, tabling_room, tabling.long)))
                (rw (add-one at, take-suc words at 0 inside, table_more 0 (take at words) (get_or words at 0) kind, place, tabling.there));
          }

  -- no word is left
  pub tabling_all :
      good_items words ≡ true
      → length words < 142337
      → length words ≤ at
      → EntityTable words (take count entities)
  tabling_all good short past =
      let says : (name : ℕ) → EntitySays 0 words (entity_table 0 words) name (searched (entity_table 0 words) name) = λ name. entity_searched name 0 unknown words (good_lawful words good) (omega arith) in
      rw (tabling.there, take_all at words past) record {
        found = λ name i is. found_there name i (subst (EntitySays 0 words (entity_table 0 words) name) is (says name));
        missing = λ name i is. subst (EntitySays 0 words (entity_table 0 words) name) is (says name);
      }
    where
      found_there :
          (name i : ℕ)
          → EntitySays 0 words (entity_table 0 words) name (Ok i)
          → (i < length (entity_table 0 words))
          × (entity_place (get_or (entity_table 0 words) i 0) < length words)
          × (from_line entity_line name (items_of words) ≡ items_of (drop (entity_place (get_or (entity_table 0 words) i 0)) words))
      found_there name i there =
          let place : entity_place (get_or (entity_table 0 words) i 0) ≡ there.place = omega (arith, there.says) in
          (there.in_table, rw place there.inside, rw place there.from)
