-- What a word means: a row of document 01 ('Tries and positions'), packed as docs/FORMS.md, 'Words', says.
use Rattle.std.specs.Prelude.{ℕ, zero, suc, ◌+◌, ◌-◌, ◌*◌, ◌/◌, ◌%◌, ◌^◌, Bool, cond, ◌&&◌, ◌||◌, ltb, eqb}
use Rattle.std.proofs.Math.Option.{Option, none, some}
use Rattle.rules.specs.Tries.{Row, Next, first, second, same, is_row}

abbrev pub depth_in : ℕ → ℕ
depth_in w = w % 32

abbrev pub mark_in : ℕ → Bool
mark_in w = eqb (w / 32 % 2) 1

-- of an entry its request type, of a node its step
abbrev pub step_in : ℕ → ℕ
step_in w = cond (eqb (depth_in w) 0) (w / 64) (w / 64 % 2 ^ 19)

-- 0 for no type, t + 1 for type t
abbrev pub type_from : ℕ → Option ℕ
type_from zero = none
type_from (suc t) = some t

abbrev pub number_for : Option ℕ → ℕ
number_for none = 0
number_for (some t) = suc t

abbrev pub type_in : ℕ → Option ℕ
type_in w = cond (eqb (depth_in w) 0) none (type_from (w / 2 ^ 25 % 2 ^ 11))

-- the row that a word packs
abbrev pub row_in : ℕ → Row
row_in w = record { depth = depth_in w; step = step_in w; mark = mark_in w; type = type_in w }

-- the word that packs a row
abbrev pub word_of : Row → ℕ
word_of row = row.depth + (cond row.mark 32 0 + (64 * row.step + 2 ^ 25 * number_for row.type))

-- a word packs a row of its form and nothing else
unfoldable pub is_word : ℕ → Bool
is_word w = is_row (row_in w) && (eqb (depth_in w) 0 || ltb w (2 ^ 36))

-- The order in which rows come: the deeper first, then the smaller step. The smaller key comes first.
abbrev pub rank_in : ℕ → ℕ
rank_in w = (31 - depth_in w) * 2 ^ 48 + step_in w

abbrev pub next_word : ℕ → ℕ → Next
next_word x y = cond (ltb (rank_in x) (rank_in y)) first (cond (ltb (rank_in y) (rank_in x)) second same)

-- the word of two that pack one node: the left one, marked if either is
unfoldable pub joined_word : ℕ → ℕ → ℕ
joined_word x y = cond (mark_in x) x (cond (mark_in y) (x + 32) x)

-- the word of a node with another type
abbrev pub typed_word : ℕ → ℕ → ℕ
typed_word number w = w % 2 ^ 25 + number * 2 ^ 25
