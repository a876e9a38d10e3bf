-- Words that hold answers or sets of ids, and words that do not. No contract cites this file.
use Rattle.std.specs.Prelude.{ℕ, ◌+◌, ◌*◌, ◌^◌, ◌≡◌, refl, [], ◌∷◌}
use Rattle.std.proofs.Math.Option.{Option, none, some}
use Rattle.rules.specs.Numbers.{accepted, refused}
use Rattle.rules.specs.Values.{Entity, plain, no_attribute, attribute}
use Rattle.rules.specs.ValueRowTests.{attributes_from, passes}
use Rattle.answers.specs.Answers.{id_set, read_item, read_from, answers_from, sets_from}

-- a head of an entity
abbrev head : ℕ → ℕ → ℕ
head parents rows = 1 + parents * 2 ^ 16 + rows * 2 ^ 32

-- field 3, the plain value 17
abbrev row : ℕ
row = 17 + 3 * 2 ^ 19 + 2 ^ 35

abbrev entity : Option Entity
entity = some (record { parents = 7 ∷ 9 ∷ []; attributes = attribute 3 (plain 17) no_attribute })

abbrev bare : Option Entity
bare = some (record { parents = []; attributes = no_attribute })

-- an absent entity, one with two parents and an attribute, and one with neither; a word is left over
three : answers_from 0 3 (0 ∷ head 2 1 ∷ 7 ∷ 9 ∷ row ∷ head 0 0 ∷ 5 ∷ []) ≡ accepted (read_item (none ∷ entity ∷ bare ∷ []) 6)
unfolding read_from id_set passes attributes_from
three = refl

-- parents that do not ascend, a row too few, a row of depth 2, a flag that is not 1, one answer too few
equal_parents : answers_from 0 2 (0 ∷ head 2 0 ∷ 7 ∷ 7 ∷ []) ≡ refused 1 1
unfolding read_from id_set
equal_parents = refl

row_missing : answers_from 0 1 (head 1 1 ∷ 7 ∷ []) ≡ refused 1 0
unfolding read_from
row_missing = refl

deep_row : answers_from 0 1 (head 0 1 ∷ (row + 2 ^ 35) ∷ []) ≡ refused 1 0
unfolding read_from id_set passes
deep_row = refl

flag_two : answers_from 0 1 (2 ∷ []) ≡ refused 1 0
unfolding read_from
flag_two = refl

answer_missing : answers_from 0 9 (0 ∷ 0 ∷ []) ≡ refused 1 2
unfolding read_from
answer_missing = refl

-- two sets, and a number that is no id
two_sets : sets_from 0 2 (2 ∷ 4 ∷ 65535 ∷ 0 ∷ []) ≡ accepted (read_item ((4 ∷ 65535 ∷ []) ∷ [] ∷ []) 4)
unfolding read_from id_set
two_sets = refl

no_id : sets_from 0 2 (0 ∷ 1 ∷ 65536 ∷ []) ≡ refused 1 1
unfolding read_from id_set
no_id = refl
