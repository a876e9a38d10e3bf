-- `result_stack::push` meets its contract: a result without rows is put on top.
use mathlib.Core.List.{[]}
use native.Mathlib.Omega.{arith}
use Rattle.rules.specs.Steps.{result}
use Rattle.result_stack.specs.StackLaws.{judged_many, pushed}
use Rattle.result_stack.proofs.push.Goals as goal

pub returns-then-stack-ge-RESULTS : goal.returns-then-stack-ge-RESULTS
returns-then-stack-ge-RESULTS c paths results words nodes held place =
    judged_many place (result [] paths) results (omega (arith, held.layout.as_many, c.if-stack-ge-RESULTS.true))

pub overflow_sub-top : goal.overflow_sub-top
overflow_sub-top c = omega (arith, c.requires.0.tries_room)

pub put_before-requires : goal.put_before-requires
put_before-requires c =
    (omega (arith, c.requires.0.code_room, c.requires.1), c.requires.0.held.layout.in_code)

pub returns : goal.returns
returns c paths results words nodes held =
    pushed paths held (omega (arith, c.requires.0.tries_room)) (omega (arith, held.layout.as_many, c.if-stack-ge-RESULTS.false)) nodes (rw words at c.put_before.ensures)
