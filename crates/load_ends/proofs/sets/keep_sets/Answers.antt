-- `load_ends::sets::keep_sets` meets its contract: the first of the sets are of their form, and their words are stored.
use Prim.Native.Nat.{◌≤◌}
use native.Mathlib.Omega.{arith}
use mathlib.Core.Path.{◌≡◌, sym, ◌∙◌}
use lib.ListN.{length}
use lib.Seq.{length-take-le}
use Rattle.answers.specs.Answers.{AllRead, lent_from}
use Rattle.answers.specs.declared.Lending.TheVariants.{Sets}
use Rattle.load_state.specs.Outcomes.{words_of}
use Rattle.load_ends.specs.SetLaws.{fine_sized, never_wrong, kept_counted, kept_read, kept_few}
use Rattle.load_ends.proofs.sets.keep_sets.Goals as goal
use Rattle.load_ends.proofs.sets.keep_sets.Goals.{In-Ok}

-- those that are kept take so many words, and there is room for them
kept :
    (c : In-Ok) →
    let a = c.args in
    let words = a.words.now in
    (words_of Sets c.min-kept.result words ≡ c.in-Ok.size)
    × (c.in-Ok.size ≤ 12288)
    × (c.in-Ok.size ≤ length words)
kept c =
    let a = c.args in
    let words = a.words.now in
    let sized = fine_sized (lent_from Sets 0 c.min-kept.result words) (sym c.check.ensures ∙ c.in-Ok.is) in
    let few = kept_few words a.count a.asked c.requires.in_bounds.1.1 c.requires.by_index.0 c.requires.by_index.1 c.requires.in_bounds.1.0 c.requires.by_index.2 c.requires.by_index.3 in
    let room = rw (← c.min-kept.ensures) at few in
    (sized, rw sized at room.0, rw sized at room.1)

pub returns-in_default : goal.returns-in_default
returns-in_default c =
    let a = c.args in
    let words = a.words.now in
    let read : AllRead (lent_from Sets 0 c.min-kept.result words) =
    rw c.min-kept.ensures (kept_read words a.count a.asked c.requires.in_bounds.1.1) in
    absurd (never_wrong (lent_from Sets 0 c.min-kept.result words) (sym c.check.ensures ∙ c.in_default.is) read)

pub slice_bounds-store_sets-end : goal.slice_bounds-store_sets-end
slice_bounds-store_sets-end c = sym (length-take-le _ _ (kept (goal.at.slice_bounds-store_sets-end c).In-Ok).2)

pub store_sets-requires : goal.store_sets-requires
store_sets-requires c =
    let (sized, room, inside) = kept (goal.at.store_sets-requires c).In-Ok in
    (omega (arith, c.requires.in_bounds.0), rw (length-take-le c.in-Ok.size c.args.words.now inside) room)

pub returns : goal.returns
returns c =
    let a = c.args in
    let words = a.words.now in
    let (sized, room, inside) = kept (goal.at.returns c).In-Ok in (
      c.min-kept.ensures ∙ kept_counted words a.count a.asked c.requires.in_bounds.1.1,
      rw sized c.store_sets.ensures,
    )
