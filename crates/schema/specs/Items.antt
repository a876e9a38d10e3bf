-- What a word of a schema says (docs/FORMS.md, 'Words'), and when a lent schema is lawful.
use Rattle.std.specs.Prelude.{ℕ, ◌+◌, ◌*◌, ◌/◌, ◌%◌, ◌^◌, Bool, true, false, cond, ◌&&◌, List, [], ◌∷◌, map, leb, ltb, eqb, length, get_or}
use Rattle.rules.specs.Schema.{Item, item, unknown, lawful_items, set_type, entity_type, entity_line}
use Rattle.words.specs.Runs.{words_in}
use Rattle.schema.specs.declared.item.Item.{Item as ItemRead}

-- the item that a word says
abbrev pub item_in : ℕ → Item
item_in w = item (w % 16) (w / 16 % 2 ^ 36) (w / 2 ^ 40)

-- the word that says an item
abbrev pub item_word : Item → ℕ
item_word it = it.tag + (it.value * 16 + it.key * 2 ^ 40)

abbrev pub item_for : ItemRead → Item
item_for it = item it.tag it.value it.key

-- an item by itself: its key is an id, a number stands where a line has one, and of names only the first
unfoldable pub is_item : Item → Bool
is_item it =
    leb it.key 65535
    && cond (eqb it.tag entity_type) (ltb it.value 131071)
    (cond (eqb it.tag set_type) true (cond (leb it.tag entity_line) (eqb it.value 0) (leb it.tag 14)))

unfoldable pub all_items : List ℕ → Bool
all_items [] = true
all_items (w ∷ ws) = let rest : Bool = all_items ws in cond (is_item (item_in w)) rest false

-- the items that words say
abbrev pub items_of : List ℕ → List Item
items_of words = map item_in words

-- words that say lines which may stand one after the other
abbrev pub good_items : List ℕ → Bool
good_items words = all_items words && lawful_items unknown (items_of words)

-- a schema's items
abbrev pub items_in : List ℕ → List Item
items_in state = items_of (words_in state)

-- the one length of a schema, and whether a lent one is lawful
abbrev pub schema_words : ℕ
schema_words = 142337

unfoldable pub lawful_schema : List ℕ → Bool
lawful_schema state = leb schema_words (length state) && (ltb (get_or state 0 0) schema_words && good_items (words_in state))
