-- `union::next_row` meets its contract: in each of its three cases the row that it answers is the next one of the union.
use Prim.Native.Nat.{◌+◌}
use native.Mathlib.Omega.{arith}
use lib.ListN.{get_or}
use Rattle.rows.specs.Words.{joined_word}
use Rattle.union.specs.Merge.{UnionTurn}
use Rattle.union.specs.MergeLaws.{first_in, second_in, turn_first, turn_second, turn_same}
use Rattle.union.proofs.next_row.Goals as goal
use Rattle.union.proofs.next_row.Goals.{Else-y-x, Then-x-y, Then-y-x}

-- the row that is taken in each case
first-turn : (c : Then-x-y) → let s = c.args in UnionTurn s.a.now s.b.now s.i s.j (get_or s.a.now s.i 0) (s.i + 1) s.j
first-turn c =
    turn_first _ _ _ _ c.requires.0 c.requires.1 (first_in _ _ _ _ _ _ c.key_at-x.ensures c.key_at-y.ensures (omega (arith, c.if-x-y.true)) c.requires.2) (omega (arith, c.key_at-x.ensures, c.key_at-y.ensures, c.if-x-y.true))

second-turn : (c : Then-y-x) → let s = c.args in UnionTurn s.a.now s.b.now s.i s.j (get_or s.b.now s.j 0) s.i (s.j + 1)
second-turn c =
    turn_second _ _ _ _ c.requires.0 c.requires.1 (second_in _ _ _ _ _ _ c.key_at-x.ensures c.key_at-y.ensures (omega (arith, c.if-y-x.true)) c.requires.2) (omega (arith, c.key_at-x.ensures, c.key_at-y.ensures, c.if-y-x.true))

same_turn : (c : Else-y-x) → let s = c.args in UnionTurn s.a.now s.b.now s.i s.j (joined_word (get_or s.a.now s.i 0) (get_or s.b.now s.j 0)) (s.i + 1) (s.j + 1)
same_turn c =
    turn_same _ _ _ _ c.requires.0 c.requires.1 (first_in _ _ _ _ _ _ c.key_at-x.ensures c.key_at-y.ensures (omega (arith, c.if-y-x.false)) c.requires.2) (second_in _ _ _ _ _ _ c.key_at-x.ensures c.key_at-y.ensures (omega (arith, c.if-x-y.false)) c.requires.2) (omega (arith, c.key_at-x.ensures, c.key_at-y.ensures, c.if-x-y.false, c.if-y-x.false))

pub bounds-a-i : goal.bounds-a-i
bounds-a-i c = omega (arith, first-turn (goal.at.bounds-a-i c).Then-x-y)

pub returns-then-x-y : goal.returns-then-x-y
returns-then-x-y c = first-turn (goal.at.returns-then-x-y c).Then-x-y

pub bounds-b-j : goal.bounds-b-j
bounds-b-j c = omega (arith, second-turn (goal.at.bounds-b-j c).Then-y-x)

pub returns-then-y-x : goal.returns-then-y-x
returns-then-y-x c = second-turn (goal.at.returns-then-y-x c).Then-y-x

pub bounds-a-i-2 : goal.bounds-a-i-2
bounds-a-i-2 c = omega (arith, same_turn (goal.at.bounds-a-i-2 c).Else-y-x)

pub bounds-b-j-2 : goal.bounds-b-j-2
bounds-b-j-2 c = omega (arith, same_turn (goal.at.bounds-b-j-2 c).Else-y-x)

pub returns : goal.returns
returns c = rw c.joined.ensures (same_turn (goal.at.returns c).Else-y-x)
