-- `wrap_steps::wrap` meets its contract: the wrapped paths stand behind the head, and their tries are merged.
use mathlib.Core.Path.{◌≡◌}
use mathlib.Core.List.{◌++◌}
use native.Mathlib.Omega.{arith}
use lib.ListN.{length, take, drop}
use lib.Seq.{length-take-le}
use Rattle.result_stack.specs.Stacks.{Held}
use Rattle.wrap_steps.specs.WrapLaws.{top_of, wrap_standing, wrap_nodes, wrap_tries, wrap_room, wrap_over, wrap_rows, wrap_done}
use Rattle.wrap_steps.proofs.wrap.Goals as goal
use Rattle.wrap_steps.proofs.wrap.Goals.{Start}

-- the results that are wrapped
many : (c : Start) → length (take c.args.count c.requires.working.holding.results) ≡ c.args.count
many c = length-take-le c.args.count c.requires.working.holding.results (omega (arith, c.requires.working.holding.held.layout.as_many, c.requires.count_nonzero.1.0))

on-top :
    (c : Start) → Held c.args.code.now c.args.tries.now c.args.stack (take c.args.count c.requires.working.holding.results ++ drop c.args.count c.requires.working.holding.results)
on-top c = top_of c.args.count c.requires.working.holding.results c.requires.working.holding.held

pub measure-wrapped-requires : goal.measure-wrapped-requires
measure-wrapped-requires c =
    wrap_standing (take c.args.count c.requires.working.holding.results) (drop c.args.count c.requires.working.holding.results) (many (goal.at.measure-wrapped-requires c).Start) (on-top (goal.at.measure-wrapped-requires c).Start)

pub returns-then-wrapped-ge-NODES : goal.returns-then-wrapped-ge-NODES
returns-then-wrapped-ge-NODES c taken left wrapping m w held place =
    wrap_over taken left m held c.requires.count_nonzero.0 w (wrap_nodes taken left m held c.measure-wrapped.ensures) c.if-wrapped-ge-NODES.true place

pub merge_tries-requires : goal.merge_tries-requires
merge_tries-requires c =
    (wrap_tries (take c.args.count c.requires.working.holding.results) (drop c.args.count c.requires.working.holding.results) (many (goal.at.merge_tries-requires c).Start) (on-top (goal.at.merge_tries-requires c).Start) c.requires.count_nonzero.0, c.requires.working.trie_length)

pub returns-in_default : goal.returns-in_default
returns-in_default c taken left wrapping m w held place =
    let nodes = wrap_nodes taken left m held c.measure-wrapped.ensures in
    wrap_rows taken left m held c.requires.count_nonzero.0 w (omega (arith, nodes, c.if-wrapped-ge-NODES.false)) c.merge_tries.new.tries (rw c.in_default.is at c.merge_tries.ensures) place

pub put_before-requires : goal.put_before-requires
put_before-requires c =
    let taken = take c.args.count c.requires.working.holding.results in
    let left = drop c.args.count c.requires.working.holding.results in
    let room = wrap_room taken left (many (goal.at.put_before-requires c).Start) (on-top (goal.at.put_before-requires c).Start) c.requires.count_nonzero.0 c.requires.working.holding.code_room in
    (omega (arith, room, c.requires.count_nonzero.1.1), c.requires.working.holding.held.layout.in_code)

pub returns : goal.returns
returns c taken left wrapping m w held =
    let nodes = wrap_nodes taken left m held c.measure-wrapped.ensures in
    wrap_done taken left m held c.requires.count_nonzero.0 w (omega (arith, nodes, c.if-wrapped-ge-NODES.false)) (rw c.in-Some.is at c.merge_tries.ensures) c.put_before.ensures
