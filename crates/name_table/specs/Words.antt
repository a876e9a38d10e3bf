-- docs/FORMS.md, 'Words': a line of a name table as one word.
use Rattle.std.specs.Prelude.{ℕ, ◌+◌, ◌*◌, ◌/◌, ◌%◌, ◌^◌}
use Rattle.words.specs.Keys.{key_in}
use Rattle.rules.specs.Names.{Named, named}

abbrev pub name_word : Named → ℕ
name_word n = n.from + n.size * 2 ^ 16 + n.key * 2 ^ 40

abbrev pub from_in : ℕ → ℕ
from_in w = w % 2 ^ 16

abbrev pub size_in : ℕ → ℕ
size_in w = w / 2 ^ 16 % 2 ^ 24

abbrev pub named_in : ℕ → Named
named_in w = named (key_in w) (from_in w) (size_in w)
