-- `load_items::items::words_of` stays within the room.
use Rattle.std.proofs.Common.{◌≤◌, vec_len}
use Rattle.load_items.proofs.items.words_of.Given as goal

abbrev pub invariant-loop-item : goal.invariant-loop-item
invariant-loop-item l = vec_len l.words ≤ l.room
