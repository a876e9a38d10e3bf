use mathlib.Core.Path.{◌≡◌}
use lib.ListN.{length}
use Rattle.schema.specs.Items.{items_of}
use Rattle.type_annotations.specs.TypedLaws.{TypingTo}
use Rattle.type_annotations.proofs.type_rows.Given as goal

abbrev pub invariant-loop-i : goal.invariant-loop-i
invariant-loop-i l =
    TypingTo (items_of l.schema.types.words.now) l.rows l.i l.above l.request l.entries l.count l.out × (length l.out ≡ length l.initial.out) × (length l.above ≡ 25)
