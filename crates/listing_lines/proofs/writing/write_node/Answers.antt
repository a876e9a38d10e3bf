-- `listing_lines::writing::write_node` meets its contract: each step writes a field of the line, and leaves room for the others.
use native.Mathlib.Omega.{arith}
use mathlib.Core.List.{[], ◌∷◌, ◌++◌}
use mathlib.Core.Path.{ap}
use lib.ListN.{length, drop, get_or}
use Rattle.rules.specs.Text.{decimal, LF, TAB}
use Rattle.rules.specs.Tries.{kind_of, id_of}
use Rattle.rules.specs.Listing.{letters}
use Rattle.words.specs.Runs.{Wrote}
use Rattle.listing_lines.specs.WriteLaws.{LineRoom, node_fields, node-fields, field_room, room_left, wrote_field, wrote_last}
use Rattle.words.specs.RunLaws.{wrote_same}
use Rattle.listing_lines.proofs.writing.write_node.Goals as goal
use Rattle.listing_lines.proofs.writing.write_node.Goals.{After-from-parts, After-put_byte-id, After-put_byte-number, After-put_number-kind, After-put_number-mark}

-- the letter that is written is the step's
wrote-letter :
    (c : After-put_byte-id) →
    Wrote c.put_number-kind.new.out c.put_number-kind.result ((get_or letters (kind_of c.args.step) 0 ∷ []) ++ (TAB ∷ [])) c.put_byte-id.new.out c.put_byte-id.result
wrote-letter c = wrote_same (ap (λ letter. letter ∷ TAB ∷ []) (rw c.from-parts.ensures.0 at c.letter.ensures)) c.put_byte-id.ensures

-- and so is the id
wrote-id :
    (c : After-put_number-mark) →
    Wrote c.put_byte-id.new.out c.put_byte-id.result (decimal (id_of c.args.step) ++ (TAB ∷ [])) c.put_number-mark.new.out c.put_number-mark.result
wrote-id c = rw c.from-parts.ensures.1 at c.put_number-mark.ensures

room : (c : After-from-parts) → LineRoom c.args.out.now c.args.at ((78 ∷ []) ∷ (node_fields c.args.depth c.args.step c.args.marked))
room c = record { fits = rw (node-fields c.args.depth c.args.step c.args.marked c.requires.0) at c.requires.2 }

room-1 : (c : After-put_byte-number) → (LineRoom c.args.out.now c.args.at ((78 ∷ []) ∷ (node_fields c.args.depth c.args.step c.args.marked))) → LineRoom c.put_byte-number.new.out c.put_byte-number.result ((node_fields c.args.depth c.args.step c.args.marked))
room-1 c room-here = room_left room-here c.put_byte-number.ensures

room-2 : (c : After-put_number-kind) → (LineRoom c.put_byte-number.new.out c.put_byte-number.result ((node_fields c.args.depth c.args.step c.args.marked))) → LineRoom c.put_number-kind.new.out c.put_number-kind.result (drop 1 ((node_fields c.args.depth c.args.step c.args.marked)))
room-2 c room-1-here = room_left room-1-here c.put_number-kind.ensures

room-3 : (c : After-put_byte-id) → (LineRoom c.put_number-kind.new.out c.put_number-kind.result (drop 1 ((node_fields c.args.depth c.args.step c.args.marked)))) → LineRoom c.put_byte-id.new.out c.put_byte-id.result (drop 2 ((node_fields c.args.depth c.args.step c.args.marked)))
room-3 c room-2-here = room_left room-2-here (wrote-letter c)

room-4 : (c : After-put_number-mark) → (LineRoom c.put_byte-id.new.out c.put_byte-id.result (drop 2 ((node_fields c.args.depth c.args.step c.args.marked)))) → LineRoom c.put_number-mark.new.out c.put_number-mark.result (drop 3 ((node_fields c.args.depth c.args.step c.args.marked)))
room-4 c room-3-here = room_left room-3-here (wrote-id c)

pub put_byte-number-requires : goal.put_byte-number-requires
put_byte-number-requires c = field_room (room (goal.at.put_byte-number-requires c).After-from-parts)

pub put_number-kind-requires : goal.put_number-kind-requires
put_number-kind-requires c = field_room (room-1 (goal.at.put_number-kind-requires c).After-put_byte-number (room (goal.at.put_number-kind-requires c).After-from-parts))

pub put_byte-id-requires : goal.put_byte-id-requires
put_byte-id-requires c = field_room (room-2 (goal.at.put_byte-id-requires c).After-put_number-kind (room-1 (goal.at.put_byte-id-requires c).After-put_byte-number (room (goal.at.put_byte-id-requires c).After-from-parts)))

pub put_number-mark-requires : goal.put_number-mark-requires
put_number-mark-requires c = rw c.from-parts.ensures.1 (field_room (room-3 (goal.at.put_number-mark-requires c).After-put_byte-id (room-2 (goal.at.put_number-mark-requires c).After-put_number-kind (room-1 (goal.at.put_number-mark-requires c).After-put_byte-number (room (goal.at.put_number-mark-requires c).After-from-parts)))))

pub put_byte-requires : goal.put_byte-requires
put_byte-requires c = omega (arith, field_room (room-4 (goal.at.put_byte-requires c).After-put_number-mark (room-3 (goal.at.put_byte-requires c).After-put_byte-id (room-2 (goal.at.put_byte-requires c).After-put_number-kind (room-1 (goal.at.put_byte-requires c).After-put_byte-number (room (goal.at.put_byte-requires c).After-from-parts))))), ap length c.digit.ensures)

pub returns : goal.returns
returns c =
    rw (node-fields c.args.depth c.args.step c.args.marked c.requires.0)
    (wrote_field _ _ _ c.put_byte-number.ensures
    (wrote_field _ _ _ c.put_number-kind.ensures
    (wrote_field _ _ _ (wrote-letter (goal.at.returns c).After-put_byte-id)
    (wrote_field _ _ _ (wrote-id (goal.at.returns c).After-put_number-mark)
    (wrote_last _ (wrote_same (ap (λ field. field ++ (LF ∷ [])) c.digit.ensures) c.put_byte.ensures))))))
