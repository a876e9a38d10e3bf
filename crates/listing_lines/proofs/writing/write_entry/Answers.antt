-- `listing_lines::writing::write_entry` meets its contract: each step writes a field of the line, and leaves room for the others.
use mathlib.Core.Bool.{false}
use mathlib.Core.List.{[], ◌∷◌}
use mathlib.Core.Path.{◌≡◌}
use lib.ListN.{drop}
use Rattle.rules.specs.Text.{decimal}
use Rattle.rules.specs.Listing.{line_of, read}
use Rattle.listing_lines.specs.Lines.{line_for}
use Rattle.listing_lines.specs.WriteLaws.{LineRoom, field_room, room_left, wrote_field, wrote_last}
use Rattle.listing_lines.proofs.writing.write_entry.Goals as goal
use Rattle.listing_lines.proofs.writing.write_entry.Goals.{After-from-parts, After-put_byte-principal, After-put_number-action, After-put_number-resource}

-- they are those of the entry's line
line : (c : After-from-parts) → line_for (read 0 c.args.request false) ≡ line_of ((65 ∷ []) ∷ (decimal c.from-parts.result.principal ∷ decimal c.from-parts.result.action ∷ decimal c.from-parts.result.resource ∷ []))
line c = rw (c.from-parts.ensures.0, c.from-parts.ensures.1, c.from-parts.ensures.2)

room : (c : After-from-parts) → LineRoom c.args.out.now c.args.at ((65 ∷ []) ∷ (decimal c.from-parts.result.principal ∷ decimal c.from-parts.result.action ∷ decimal c.from-parts.result.resource ∷ []))
room c = record { fits = rw (line c) at c.requires }

room-1 : (c : After-put_byte-principal) → (LineRoom c.args.out.now c.args.at ((65 ∷ []) ∷ (decimal c.from-parts.result.principal ∷ decimal c.from-parts.result.action ∷ decimal c.from-parts.result.resource ∷ []))) → LineRoom c.put_byte-principal.new.out c.put_byte-principal.result ((decimal c.from-parts.result.principal ∷ decimal c.from-parts.result.action ∷ decimal c.from-parts.result.resource ∷ []))
room-1 c room-here = room_left room-here c.put_byte-principal.ensures

room-2 : (c : After-put_number-action) → (LineRoom c.put_byte-principal.new.out c.put_byte-principal.result ((decimal c.from-parts.result.principal ∷ decimal c.from-parts.result.action ∷ decimal c.from-parts.result.resource ∷ []))) → LineRoom c.put_number-action.new.out c.put_number-action.result (drop 1 ((decimal c.from-parts.result.principal ∷ decimal c.from-parts.result.action ∷ decimal c.from-parts.result.resource ∷ [])))
room-2 c room-1-here = room_left room-1-here c.put_number-action.ensures

room-3 : (c : After-put_number-resource) → (LineRoom c.put_number-action.new.out c.put_number-action.result (drop 1 ((decimal c.from-parts.result.principal ∷ decimal c.from-parts.result.action ∷ decimal c.from-parts.result.resource ∷ [])))) → LineRoom c.put_number-resource.new.out c.put_number-resource.result (drop 2 ((decimal c.from-parts.result.principal ∷ decimal c.from-parts.result.action ∷ decimal c.from-parts.result.resource ∷ [])))
room-3 c room-2-here = room_left room-2-here c.put_number-resource.ensures

pub put_byte-principal-requires : goal.put_byte-principal-requires
put_byte-principal-requires c = field_room (room (goal.at.put_byte-principal-requires c).After-from-parts)

pub put_number-action-requires : goal.put_number-action-requires
put_number-action-requires c = field_room (room-1 (goal.at.put_number-action-requires c).After-put_byte-principal (room (goal.at.put_number-action-requires c).After-from-parts))

pub put_number-resource-requires : goal.put_number-resource-requires
put_number-resource-requires c = field_room (room-2 (goal.at.put_number-resource-requires c).After-put_number-action (room-1 (goal.at.put_number-resource-requires c).After-put_byte-principal (room (goal.at.put_number-resource-requires c).After-from-parts)))

pub put_number-requires : goal.put_number-requires
put_number-requires c = field_room (room-3 (goal.at.put_number-requires c).After-put_number-resource (room-2 (goal.at.put_number-requires c).After-put_number-action (room-1 (goal.at.put_number-requires c).After-put_byte-principal (room (goal.at.put_number-requires c).After-from-parts))))

pub returns : goal.returns
returns c =
    rw (line (goal.at.returns c).After-from-parts)
    (wrote_field _ _ _ c.put_byte-principal.ensures
    (wrote_field _ _ _ c.put_number-action.ensures
    (wrote_field _ _ _ c.put_number-resource.ensures (wrote_last _ c.put_number.ensures))))
