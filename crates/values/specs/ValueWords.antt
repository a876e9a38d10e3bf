-- What a word of a value means: a row of `ValueRows`, packed as docs/FORMS.md, 'Words', says. Every word packs one row, and a row's word is
-- the smaller the earlier the row comes in the order of a set's elements.
use Rattle.std.specs.Prelude.{ℕ, ◌+◌, ◌*◌, ◌/◌, ◌%◌, ◌^◌, List, map}
use Rattle.rules.specs.Tries.{ids}
use Rattle.rules.specs.ValueRows.{ValueRow, value_row}
use Rattle.rules.specs.Loading.{EntityRequest}

abbrev pub depth_from : ℕ → ℕ
depth_from w = w / 2 ^ 35

abbrev pub key_from : ℕ → ℕ
key_from w = w / 2 ^ 19 % 2 ^ 16

abbrev pub kind_from : ℕ → ℕ
kind_from w = w / 2 ^ 16 % 2 ^ 3

abbrev pub number_from : ℕ → ℕ
number_from w = w % 2 ^ 16

-- the row that a word packs
abbrev pub value_row_in : ℕ → ValueRow
value_row_in w = value_row (depth_from w) (key_from w) (kind_from w) (number_from w)

-- the word that packs a row
abbrev pub value_word : ValueRow → ℕ
value_word x = x.number + (x.kind * 2 ^ 16 + (x.key * 2 ^ 19 + x.depth * 2 ^ 35))

-- a word with key 0
abbrev pub unkeyed_word : ℕ → ℕ
unkeyed_word w = w % 2 ^ 19 + w / 2 ^ 35 * 2 ^ 35

-- the rows that words pack
abbrev pub value_rows_of : List ℕ → List ValueRow
value_rows_of words = map value_row_in words

-- the row asked for that a word says: an entity, and its node
abbrev pub row_asked : ℕ → EntityRequest
row_asked w = record { id = w % ids; node = w / ids }

-- the word of a row that is asked for
abbrev pub request_word : EntityRequest → ℕ
request_word row = row.id + row.node * ids
