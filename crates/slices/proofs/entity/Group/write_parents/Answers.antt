-- `slices::entity::Group::write_parents` meets its contract: the parents of the first answer are copied, and united with the ancestors.
use native.Mathlib.Omega.{arith}
use Rattle.slices.specs.Keys.{places_of}
use Rattle.slices.specs.Writing.{FirstAnswer}
use Rattle.slices.specs.EntityLaws.{parents_some, first_stands, parents_room, parents_unite, parents_wrote}
use Rattle.slices.proofs.entity.Group.write_parents.Goals as goal
use Rattle.slices.proofs.entity.Group.write_parents.Goals.{In-Some}

-- the first answer is found
found :
    (c : In-Some)
    → let a = c.args in
    FirstAnswer a.self.words.now a.self.keys.now (places_of a.self.places.now a.self.keys.now) a.self.entity 0 c.in-Some.first
found c = rw c.in-Some.is at c.next_answer.ensures

pub returns-in_default : goal.returns-in_default
returns-in_default c =
    absurd (parents_some c.requires (rw c.in_default.is at c.next_answer.ensures))

pub place_of-place-requires : goal.place_of-place-requires
place_of-place-requires c = omega (arith, (found (goal.at.place_of-place-requires c).In-Some).inside, c.requires.heard.as_many)

pub overflow_add-start : goal.overflow_add-start
overflow_add-start c = omega (arith, (first_stands c.requires (found (goal.at.overflow_add-start c).In-Some)).fits, c.place_of-place.ensures)

pub rows_start-end-requires : goal.rows_start-end-requires
rows_start-end-requires c = rw c.place_of-place.ensures (first_stands c.requires (found (goal.at.rows_start-end-requires c).In-Some))

pub offset_bounds-self-start : goal.offset_bounds-self-start
offset_bounds-self-start c = omega (arith, (first_stands c.requires (found (goal.at.offset_bounds-self-start c).In-Some)).fits, c.place_of-place.ensures)

pub slice_bounds-copy_words-end : goal.slice_bounds-copy_words-end
slice_bounds-copy_words-end c = omega (arith, (first_stands c.requires (found (goal.at.slice_bounds-copy_words-end c).In-Some)).fits, (rw c.place_of-place.ensures at c.rows_start-end.ensures))

pub copy_words-requires : goal.copy_words-requires
copy_words-requires c =
    rw c.place_of-place.ensures (parents_room c.requires (found (goal.at.copy_words-requires c).In-Some) (rw c.place_of-place.ensures at c.rows_start-end.ensures))

pub add_ancestors-requires : goal.add_ancestors-requires
add_ancestors-requires c =
    rw c.place_of-place.ensures
    (parents_unite c.requires (found (goal.at.add_ancestors-requires c).In-Some) (rw c.place_of-place.ensures at c.rows_start-end.ensures) (rw c.place_of-place.ensures at c.copy_words.ensures))

pub returns : goal.returns
returns c =
    parents_wrote c.requires (found (goal.at.returns c).In-Some) (rw c.place_of-place.ensures at c.rows_start-end.ensures)
    (rw c.place_of-place.ensures at c.copy_words.ensures)
    (rw c.place_of-place.ensures at c.add_ancestors.ensures)
