-- `load_items::items::Item::put` stays within the room.
use Rattle.std.proofs.Common.{◌≤◌, vec_len}
use Rattle.load_items.proofs.items.Item.put.Given as goal

abbrev pub invariant-loop : goal.invariant-loop
invariant-loop l = vec_len l.words ≤ l.room
