-- Document 01, 'Schema and typing': the schema's text, in the form that docs/FORMS.md, 'Schema', gives it.
use Rattle.std.specs.Prelude.{ℕ, ◌+◌, ◌-◌, Bool, true, false, cond, ◌&&◌, List, [], ◌∷◌, leb, ltb, eqb, length}
use Rattle.std.proofs.Math.Option.{Option, none, some}
use Rattle.rules.specs.Numbers.{Answer, accepted, refused}
use Rattle.rules.specs.Text.{bytes, byte_of, lines_of, fields_of, decimal_of}
use Rattle.rules.specs.Listing.{◌>>=◌, is_letter, place_in}

-- What one line says: what it is, a number and a key.
pub record Item : Type 0 where
  pub tag : ℕ
  pub value : ℕ
  pub key : ℕ

abbrev pub item : ℕ → ℕ → ℕ → Item
item tag value key = record { tag = tag; value = value; key = key }

-- 'never, true, false, primitive, extension, set (with or without element type), record, action, entity (one or more names),
-- any-entity' are the tags 0 to 10, set without element type before set with it; the key is the type's number
abbrev pub set_type : ℕ
set_type = 6

abbrev pub record_type : ℕ
record_type = 7

abbrev pub action_type : ℕ
action_type = 8

abbrev pub entity_type : ℕ
entity_type = 9

abbrev pub last_type : ℕ
last_type = 10

-- an entity type's name, an attribute of the line above (its field and type), a literal and its type, an action and its context type
abbrev pub entity_line : ℕ
entity_line = 11

abbrev pub attribute_line : ℕ
attribute_line = 12

abbrev pub literal_line : ℕ
literal_line = 13

abbrev pub context_line : ℕ
context_line = 14

-- decimals that ascend strictly, the first at least `least`
unfoldable pub ascending : ℕ → List (List ℕ) → Option (List ℕ)
ascending least [] = some []
ascending least (field ∷ fields) = do
  n ← decimal_of field
  ns ← cond (leb least n) (ascending (n + 1) fields) none
  some (n ∷ ns)

-- 'entity (one or more names)': the first name, and 65,536 more where it is not the only one
abbrev pub names_of : List ℕ → Option ℕ
names_of [] = none
names_of (name ∷ []) = some name
names_of (name ∷ more ∷ names) = some (name + 65536)

-- what follows a type's kind: the element type of a set, the names of an entity, nothing for the others
abbrev pub value_of : ℕ → List (List ℕ) → Option ℕ
value_of kind [] = cond (leb kind last_type) (cond (eqb kind set_type) none (cond (eqb kind entity_type) none (some 0))) none
value_of kind (field ∷ []) = cond (eqb kind set_type) (decimal_of field) (cond (eqb kind entity_type) (decimal_of field) none)
value_of kind (field ∷ more ∷ fields) = cond (eqb kind entity_type) (ascending 0 (field ∷ more ∷ fields) >>= names_of) none

-- `T` number kind more
abbrev pub type_of : List ℕ → List ℕ → List (List ℕ) → Option Item
type_of number kind more = do
  n ← decimal_of number
  k ← decimal_of kind
  v ← value_of k more
  some (item k v n)

-- `F`, `L` or `C`, a key and a type
abbrev pub pair_of : List ℕ → List ℕ → List ℕ → Option Item
pair_of word key type = do
  place ← place_in (bytes "FLC") word
  k ← decimal_of key
  t ← decimal_of type
  some (item (attribute_line + place) t k)

-- what a line says, by its fields
unfoldable pub item_of : List (List ℕ) → Option Item
item_of [] = none
item_of (word ∷ []) = none
item_of (word ∷ name ∷ []) = cond (is_letter (byte_of "E") word) (decimal_of name >>= (λ n. some (item entity_line 0 n))) none
item_of (word ∷ a ∷ b ∷ []) = cond (is_letter (byte_of "T") word) (type_of a b []) (pair_of word a b)
item_of (word ∷ a ∷ b ∷ c ∷ more) = cond (is_letter (byte_of "T") word) (type_of a b (c ∷ more)) none

-- The four sections, 'types, entity types, literals, actions', and how many lines each may have beside its attributes.
abbrev pub section_of : ℕ → ℕ
section_of tag = cond (leb tag last_type) 0 (cond (leb tag attribute_line) 1 (cond (eqb tag literal_line) 2 3))

abbrev pub most_of : ℕ → ℕ
most_of section = cond (eqb section 2) 8192 1024

-- 'At most 64 attributes a record'
abbrev pub most_attributes : ℕ
most_attributes = 64

-- Where a schema has come to. Which section: `section`, how many lines that has beside attributes (`lines`, for its limit and for a type's
-- number), and the least key that its next line may have (`least`). Which types: how many there are so far (`types`). Which attribute:
-- how many may still follow the line above (`room`), the least field that the next may have (`field`), and the number past the types that
-- it may have (`bound`: a record's own number, or for an entity type the number of all types).
pub record Known : Type 0 where
  pub section : ℕ
  pub lines : ℕ
  pub least : ℕ
  pub types : ℕ
  pub room : ℕ
  pub field : ℕ
  pub bound : ℕ

abbrev pub unknown : Known
unknown = record { section = 0; lines = 0; least = 0; types = 0; room = 0; field = 0; bound = 0 }

-- the same at the start of a later section
abbrev pub within : Known → ℕ → Known
within known section =
    cond (eqb known.section section) known
    (record { section = section; lines = 0; least = 0; types = known.types; room = 0; field = 0; bound = 0 })

-- Types are numbered 0, 1, 2 .. in order, 'a type refers only to lower-numbered types'; keys ascend strictly; a type that is
-- named is there.
abbrev pub key_fits : Known → Item → Bool
key_fits known it = cond (leb it.tag last_type) (eqb it.key known.lines) (leb known.least it.key)

abbrev pub value_fits : Known → Item → Bool
value_fits known it =
    cond (eqb it.tag set_type) (ltb it.value it.key) (cond (leb it.tag attribute_line) true (ltb it.value known.types))

-- whether a line may come after others
abbrev pub fits : Known → Item → Bool
fits known it =
    cond (eqb it.tag attribute_line)
    (ltb 0 known.room && (leb known.field it.key && ltb it.value known.bound))
    (leb known.section (section_of it.tag)
    && (ltb (within known (section_of it.tag)).lines (most_of (section_of it.tag))
    && (key_fits (within known (section_of it.tag)) it && value_fits known it)))

-- how many attributes may follow a line: records, actions and entity types have them
abbrev pub room_after : ℕ → ℕ
room_after tag =
    cond (eqb tag record_type) most_attributes (cond (eqb tag action_type) most_attributes (cond (eqb tag entity_line) most_attributes 0))

-- where the schema has come to after a line
abbrev pub beyond : Known → Item → Known
beyond known it =
    cond (eqb it.tag attribute_line)
    (record {
      section = known.section;
      lines = known.lines;
      least = known.least;
      types = known.types;
      room = known.room - 1;
      field = it.key + 1;
      bound = known.bound;
    })
    (record {
      section = section_of it.tag;
      lines = (within known (section_of it.tag)).lines + 1;
      least = it.key + 1;
      types = cond (leb it.tag last_type) (known.types + 1) known.types;
      room = room_after it.tag;
      field = 0;
      bound = known.types;
    })

-- lines that may stand one after the other
unfoldable pub lawful_items : Known → List Item → Bool
lawful_items known [] = true
lawful_items known (it ∷ items) = let rest : Bool = lawful_items (beyond known it) items in cond (fits known it) rest false

-- an item in front of what the lines after it give
abbrev pub ahead : Item → Answer (List Item) → Answer (List Item)
ahead it (accepted items) = accepted (it ∷ items)
ahead it (refused number place) = refused number place

-- 'anything else is 1': the lines from one on. What stands last is no line where it is empty, and otherwise a line without LF
unfoldable pub items_from : Known → ℕ → List (List ℕ) → Answer (List Item)
items_from known place [] = accepted []
items_from known place (line ∷ []) = cond (eqb (length line) 0) (accepted []) (refused 1 place)
items_from known place (line ∷ next ∷ lines) =
    elim (item_of (fields_of line)) [
      | none ↦ refused 1 place
      | some it ↦
          let rest : Answer (List Item) = items_from (beyond known it) (place + 1) (next ∷ lines) in
          cond (fits known it) (ahead it rest) (refused 1 place)
    ]

-- a schema's text read
abbrev pub read_schema : List ℕ → Answer (List Item)
read_schema text = items_from unknown 0 (lines_of text)

-- The lines of a schema from type t on, if it has that type, and the attributes that stand in front of some lines.
unfoldable pub from_type : ℕ → List Item → Option (List Item)
from_type t [] = none
from_type t (it ∷ items) =
    let rest : Option (List Item) = from_type t items in
    cond (leb it.tag last_type && eqb it.key t) (some (it ∷ items)) rest

unfoldable pub attributes_of : List Item → List Item
attributes_of [] = []
attributes_of (it ∷ items) = let rest : List Item = attributes_of items in cond (eqb it.tag attribute_line) (it ∷ rest) []
