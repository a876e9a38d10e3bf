-- `union::take_both` meets its contract: the row that it stores is the next one of both runs, and there is room for it.
use Prim.Native.Nat.{◌+◌, ◌<◌}
use mathlib.Core.Path.{refl}
use native.Mathlib.Omega.{arith}
use lib.ListN.{length, get_or}
use Rattle.rows.specs.Words.{joined_word}
use Rattle.union.specs.Merge.{UnionTurn}
use Rattle.union.specs.MergeLaws.{first_in, second_in, turn_same, turn-fits, stored_row}
use Rattle.union.proofs.take_both.Goals as goal
use Rattle.union.proofs.take_both.Goals.{Start}

-- both runs have the row
left_in : (s : Start) → s.args.c.a < length s.args.a.now
left_in s = first_in s.args.a.now s.args.b.now s.args.c.a s.args.c.b _ _ refl refl (omega (arith, s.requires.b_bound.1)) s.requires.b_bound.0

right-in : (s : Start) → s.args.c.b < length s.args.b.now
right-in s = second_in s.args.a.now s.args.b.now s.args.c.a s.args.c.b _ _ refl refl (omega (arith, s.requires.b_bound.1)) s.requires.b_bound.0

turn : (s : Start) → let a = s.args in UnionTurn a.a.now a.b.now a.c.a a.c.b (joined_word (get_or a.a.now a.c.a 0) (get_or a.b.now a.c.b 0)) (a.c.a + 1) (a.c.b + 1)
turn s = turn_same _ _ _ _ s.requires.merge_room.in_a s.requires.merge_room.in_b (left_in s) (right-in s) s.requires.b_bound.1

pub offset_bounds-a-i : goal.offset_bounds-a-i
offset_bounds-a-i c = omega (arith, left_in (goal.at.offset_bounds-a-i c).Start)

pub bounds-a-i : goal.bounds-a-i
bounds-a-i c = left_in (goal.at.bounds-a-i c).Start

pub offset_bounds-b-j : goal.offset_bounds-b-j
offset_bounds-b-j c = omega (arith, right-in (goal.at.offset_bounds-b-j c).Start)

pub bounds-b-j : goal.bounds-b-j
bounds-b-j c = right-in (goal.at.bounds-b-j c).Start

pub bounds-out-k : goal.bounds-out-k
bounds-out-k c = turn-fits c.requires.merge_room (turn (goal.at.bounds-out-k c).Start)

pub returns : goal.returns
returns c = rw c.joined.ensures record { merged = stored_row c.requires.merge_room (turn (goal.at.returns c).Start); b_bound_2 = omega arith }
