-- `slices::entity::Group::write_rows` meets its contract: the answers before row k are merged, and their rows are held.
use native.Mathlib.Omega.{arith}
use borrow.Author.Rules.{rules}
use Rattle.words.specs.RunLaws.{wrote_length}
use Rattle.slices.specs.Keys.{places_of}
use Rattle.slices.specs.Writing.{FirstAnswer}
use Rattle.slices.specs.WriteLaws.{merged_none, merged_few, merged-all, may_merge, merged_next}
use Rattle.slices.proofs.entity.Group.write_rows.Goals as goal
use Rattle.slices.proofs.entity.Group.write_rows.Goals.{In-Some}

-- the next answer is found
found :
    (c : In-Some)
    → let a = c.args in
    FirstAnswer a.self.words.now a.self.keys.now (places_of a.self.places.now a.self.keys.now) a.self.entity c.loop-next.k
    c.in-Some.next
found c = rw c.in-Some.is at c.next_answer.ensures

pub loop-next-init : goal.loop-next-init
loop-next-init c = merged_none c.requires

pub next_answer-requires : goal.next_answer-requires
next_answer-requires c = (c.requires.heard, c.loop-next.invariant.inside)

pub place_of-place-requires : goal.place_of-place-requires
place_of-place-requires c = omega (arith, (found (goal.at.place_of-place-requires c).In-Some).inside, c.requires.heard.as_many)

pub merge_more-size-requires : goal.merge_more-size-requires
merge_more-size-requires c =
    rw c.place_of-place.ensures (may_merge c.requires c.loop-next.invariant (found (goal.at.merge_more-size-requires c).In-Some))

pub overflow_add-k : goal.overflow_add-k
overflow_add-k c = omega (arith, (found (goal.at.overflow_add-k c).In-Some).inside)

pub loop-next-smaller : goal.loop-next-smaller
loop-next-smaller c = omega (arith, (found (goal.at.loop-next-smaller c).In-Some).inside, (found (goal.at.loop-next-smaller c).In-Some).after)

pub loop-next-preserved : goal.loop-next-preserved
loop-next-preserved c =
    merged_next c.requires c.loop-next.invariant (found (goal.at.loop-next-preserved c).In-Some) (search rules)
    (rw c.place_of-place.ensures at c.merge_more-size.ensures)

pub shape_of-out : goal.shape_of-out
shape_of-out c = wrote_length c.loop-next.invariant.wrote

pub shape_of-scratch : goal.shape_of-scratch
shape_of-scratch c = c.loop-next.invariant.scratch_kept

pub returns : goal.returns
returns c = record { wrote = merged-all c.requires c.loop-next.invariant (rw c.in_default.is at c.next_answer.ensures); upper_bound = merged_few c.requires c.loop-next.invariant }
