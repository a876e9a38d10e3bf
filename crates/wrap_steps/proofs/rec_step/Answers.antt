-- `wrap_steps::rec_step` meets its contract: the results on top are wrapped under the head of a record literal and its names.
use Prim.Native.Nat.{ℕ, ◌+◌, ◌*◌, ◌-◌, ◌≤◌}
use mathlib.Core.Path.{◌≡◌, refl, sym, ◌∙◌}
use mathlib.Core.List.{List, [], ◌∷◌}
use native.Mathlib.Omega.{arith}
use lib.ListN.{length, take, drop, length-take, length-drop, drop_of_length-le}
use lib.Seq.{length-take-le, take_all}
use Rattle.rules.specs.Paths.{RecordLiteral, no_field, nodes_of, nodes_of_fields}
use Rattle.wrapped_paths.specs.Code.{code, code_fields, count_in, names_in}
use Rattle.wrap_steps.specs.WrapLaws.{rec_none, rec_few, rec_head, head_room, rec_done}
use Rattle.wrap_steps.proofs.rec_step.Goals as goal
use Rattle.wrap_steps.proofs.rec_step.Goals.{After-copy_names-end, Start}

-- the names that the step has
abbrev named : (c : Start) → List ℕ
named c = drop (32 - c.args.count) c.args.names.now

as_many : (c : Start) → length (named c) ≡ c.args.count
as_many c = omega (arith, length-drop (32 - c.args.count) c.args.names.now, c.requires.count_bound)

part :
    (c : Start)
    → take (length c.args.names.now - (length c.args.names.now - c.args.count)) (drop (length c.args.names.now - c.args.count) c.args.names.now)
    ≡ named c
part c =
    let many : length c.args.names.now ≡ 32 = omega (arith, c.requires.count_bound) in
    rw many (take_all (32 - (32 - c.args.count)) (named c) (omega (arith, length-drop (32 - c.args.count) c.args.names.now)))

-- the head is copied whole
room : (c : After-copy_names-end) → (length ((drop (32 - c.args.count) c.args.names.now)) ≡ c.args.count) → (take (length c.args.names.now - (length c.args.names.now - c.args.count)) (drop (length c.args.names.now - c.args.count) c.args.names.now) ≡ drop (32 - c.args.count) c.args.names.now) → (c.copy_names-end.result ≤ length c.copy_names-end.new.out) × (c.copy_names-end.result ≡ 1 + length ((drop (32 - c.args.count) c.args.names.now)))
room c as_many-here part-here =
    head_room c.word-2.result ((drop (32 - c.args.count) c.args.names.now)) (omega (arith, as_many-here, c.requires.count_bound)) (rw part-here at c.copy_names-end.ensures)

pub returns-then-count-eq0 : goal.returns-then-count-eq0
unfolding code nodes_of count_in names_in code_fields nodes_of_fields
returns-then-count-eq0 c results held =
    let none_named : named (goal.at.returns-then-count-eq0 c).Start ≡ [] = drop_of_length-le c.args.names.now {i = 32 - c.args.count} (omega (arith, c.requires.count_bound.1, c.if-count-eq0.true)) in
    rec_none results (named (goal.at.returns-then-count-eq0 c).Start) c.push.new.code c.push.new.tries c.push.result none_named
    (c.push.ensures (RecordLiteral no_field) results (rw c.word.ensures) refl held)

pub returns-then-stack-count : goal.returns-then-stack-count
returns-then-stack-count c results held place =
    rec_few results held (named (goal.at.returns-then-stack-count c).Start) (omega (arith, as_many (goal.at.returns-then-stack-count c).Start, c.if-stack-count.true)) place

pub copy_names-end-requires : goal.copy_names-end-requires
copy_names-end-requires c = rw (part (goal.at.copy_names-end-requires c).Start) (omega (arith, as_many (goal.at.copy_names-end-requires c).Start, c.requires.count_bound), c.requires.count_bound.1.1)

pub slice_bounds-wrap-end : goal.slice_bounds-wrap-end
slice_bounds-wrap-end c =
    sym (length-take-le c.copy_names-end.result c.copy_names-end.new.out (room (goal.at.slice_bounds-wrap-end c).After-copy_names-end (as_many (goal.at.slice_bounds-wrap-end c).Start) (part (goal.at.slice_bounds-wrap-end c).Start)).0)

pub wrap-requires : goal.wrap-requires
wrap-requires c =
    record { working = c.requires.working; count_nonzero = (omega (arith, c.if-count-eq0.false), (omega (arith, c.if-stack-count.false), omega (arith, length-take c.copy_names-end.result c.copy_names-end.new.out, room (goal.at.wrap-requires c).After-copy_names-end (as_many (goal.at.wrap-requires c).Start) (part (goal.at.wrap-requires c).Start), as_many (goal.at.wrap-requires c).Start))) }

pub returns : goal.returns
returns c results held =
    let written = rw (part (goal.at.returns c).Start) at c.copy_names-end.ensures in
    let head : take c.copy_names-end.result c.copy_names-end.new.out ≡ (4 + 64 * c.args.count) ∷ named (goal.at.returns c).Start =
    rec_head c.word-2.result (named (goal.at.returns c).Start) (omega (arith, as_many (goal.at.returns c).Start, c.requires.count_bound)) written ∙ rw c.word-2.ensures in
    let by = rw head at c.wrap.ensures in
    rec_done results held (named (goal.at.returns c).Start) c.args.count c.wrap.new.code c.wrap.new.tries c.wrap.result (as_many (goal.at.returns c).Start) (omega (arith, c.if-stack-count.false)) by
