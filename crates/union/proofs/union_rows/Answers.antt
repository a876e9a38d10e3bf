-- `union::union_rows` meets its contract: what is judged decides, and what is stored is the whole union.
use Prim.Native.Nat.{◌+◌, ◌-◌, ◌≤◌}
use mathlib.Core.Path.{◌≡◌, ◌∙◌}
use native.Mathlib.Omega.{arith}
use lib.ListN.{length, length-set}
use Rattle.words.specs.SeqLaws.{set_before}
use Rattle.union.specs.Unions.{union_words}
use Rattle.union.specs.MergeLaws.{room_start, stored_all, stored_end, stored_length}
use Rattle.words.specs.RunLaws.{by_parts}
use Rattle.union.specs.UnionLaws.{union_many_types, union_many_nodes, union_fits, union_stored}
use Rattle.union.proofs.union_rows.Goals as goal
use Rattle.union.proofs.union_rows.Goals.{After-union_roots-end, Else-limits-size, Else-limits-size-2}

-- the counts are within the limits
types-fit : (c : Else-limits-size) → c.judged_size-size.result.entries ≤ c.limits-limits.result.entries
types-fit c = omega (arith, c.if-limits-size.false)

nodes-fit : (c : Else-limits-size-2) → c.judged_size-size.result.nodes ≤ c.limits-limits.result.nodes
nodes-fit c = omega (arith, c.if-limits-size-2.false)

-- the whole union fits behind its count
fits : (c : Else-limits-size-2) → (c.judged_size-size.result.entries ≤ c.limits-limits.result.entries) → let a = c.args in 1 + length (union_words a.a.now a.b.now) ≤ length a.out.now
fits c types-fit-here =
    union_fits _ _ c.requires.0 c.requires.1 c.args.kind c.args.out.now c.judged_size-size.ensures c.limits-limits.ensures.1 c.limits-limits.ensures.2 types-fit-here (nodes-fit c) c.requires.2

-- the place after the whole union
end_of : (c : After-union_roots-end) → let a = c.args in c.union_roots-end.result.out ≡ 1 + length (union_words a.a.now a.b.now)
end_of c =
    stored_end _ _ _ _ 1 _ _ _ c.requires.0 c.requires.1 c.union_roots-end.ensures.merged c.union_roots-end.ensures.left_bound_2

pub returns-then-limits-size : goal.returns-then-limits-size
returns-then-limits-size c =
    by_parts (union_many_types _ _ c.requires.0 c.requires.1 c.args.kind c.args.out.now c.judged_size-size.ensures c.limits-limits.ensures.1 c.limits-limits.ensures.2 c.if-limits-size.true)

pub returns-then-limits-size-2 : goal.returns-then-limits-size-2
returns-then-limits-size-2 c =
    by_parts (union_many_nodes _ _ c.requires.0 c.requires.1 c.args.kind c.args.out.now c.judged_size-size.ensures c.limits-limits.ensures.1 c.limits-limits.ensures.2 (types-fit (goal.at.returns-then-limits-size-2 c).Else-limits-size) c.if-limits-size-2.true)

pub union_roots-end-requires : goal.union_roots-end-requires
union_roots-end-requires c = record { merge_room = room_start _ _ _ 1 (fits (goal.at.union_roots-end-requires c).Else-limits-size-2 (types-fit (goal.at.union_roots-end-requires c).Else-limits-size)); left_bound = omega arith }

pub overflow_sub-out : goal.overflow_sub-out
overflow_sub-out c = omega (arith, end_of (goal.at.overflow_sub-out c).After-union_roots-end)

pub bounds-out-0 : goal.bounds-out-0
bounds-out-0 c = omega (arith, fits (goal.at.bounds-out-0 c).Else-limits-size-2 (types-fit (goal.at.bounds-out-0 c).Else-limits-size), stored_length c.union_roots-end.ensures.merged)

pub shape_of-out : goal.shape_of-out
shape_of-out c = simp length-set (stored_length c.union_roots-end.ensures.merged)

pub returns : goal.returns
returns c =
    let done = by_parts (union_stored c.args.a.now c.args.b.now c.requires.0 c.requires.1 c.args.kind c.args.out.now c.judged_size-size.ensures c.limits-limits.ensures.1 c.limits-limits.ensures.2 (types-fit (goal.at.returns c).Else-limits-size) (nodes-fit (goal.at.returns c).Else-limits-size-2)) in
    let stored = stored_all _ _ _ _ 1 _ _ _ c.requires.0 c.requires.1 c.union_roots-end.ensures.merged c.union_roots-end.ensures.left_bound_2 in
    let count : c.union_roots-end.result.out - 1 ≡ length (union_words c.args.a.now c.args.b.now) = omega (arith, end_of (goal.at.returns c).After-union_roots-end) in
    (done.0, rw (stored, count) (set_before c.args.out.now 0 (length (union_words c.args.a.now c.args.b.now)) 1 (union_words c.args.a.now c.args.b.now) (omega arith)) ∙ done.1)
