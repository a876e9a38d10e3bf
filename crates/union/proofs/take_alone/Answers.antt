-- `union::take_alone` meets its contract: the rows that are copied are the next ones of the union.
use Prim.Native.Nat.{◌<◌}
use native.Mathlib.Omega.{arith}
use lib.ListN.{length}
use Rattle.rules.specs.Facts.{compared}
use Rattle.union.specs.Merge.{key_at}
use Rattle.union.specs.MergeLaws.{first_in, second_in, stored_left, stored_right, merge_room_left, room_right}
use Rattle.union.proofs.take_alone.Goals as goal
use Rattle.union.proofs.take_alone.Goals.{Else-key_at, Then-key_at}

-- the run that has the next row
left_next : (c : Then-key_at) → let s = c.args in (s.c.a < length s.a.now) × (key_at s.a.now s.c.a < key_at s.b.now s.c.b)
left_next c =
    (first_in _ _ _ _ _ _ c.key_at.ensures c.key_at-2.ensures (omega (arith, c.if-key_at.true)) c.requires.b_bound.0, omega (arith, c.key_at.ensures, c.key_at-2.ensures, c.if-key_at.true))

right_next : (c : Else-key_at) → let s = c.args in (s.c.b < length s.b.now) × (key_at s.b.now s.c.b < key_at s.a.now s.c.a)
right_next c = (
  second_in _ _ _ _ _ _ c.key_at.ensures c.key_at-2.ensures (omega (arith, c.if-key_at.false)) c.requires.b_bound.0,
  compared (key_at c.args.b.now c.args.c.b) (key_at c.args.a.now c.args.c.a) (λ less. less)
      (λ not-less. absurd (c.requires.b_bound.1 (omega (arith, c.key_at.ensures, c.key_at-2.ensures, c.if-key_at.false)))),
)

pub copy_trie-end-requires : goal.copy_trie-end-requires
copy_trie-end-requires c = ((left_next (goal.at.copy_trie-end-requires c).Then-key_at).0, merge_room_left c.requires.merge_room)

pub returns-then-key_at : goal.returns-then-key_at
returns-then-key_at c = record { merged = stored_left c.requires.merge_room (left_next (goal.at.returns-then-key_at c).Then-key_at).1 c.copy_trie-end.ensures; b_bound_2 = omega (arith, c.copy_trie-end.ensures.some_row) }

pub copy_trie-end-requires-2 : goal.copy_trie-end-requires-2
copy_trie-end-requires-2 c = ((right_next (goal.at.copy_trie-end-requires-2 c).Else-key_at).0, room_right c.requires.merge_room)

pub returns : goal.returns
returns c = record { merged = stored_right c.requires.merge_room (right_next (goal.at.returns c).Else-key_at).1 c.copy_trie-end-2.ensures; b_bound_2 = omega (arith, c.copy_trie-end-2.ensures.some_row) }
