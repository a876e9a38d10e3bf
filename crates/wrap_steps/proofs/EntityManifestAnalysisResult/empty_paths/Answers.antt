-- `wrap_steps::EntityManifestAnalysisResult::empty_paths` meets its contract: empty paths take the place of the top's paths.
use native.Mathlib.Omega.{arith}
use Rattle.result_stack.specs.StackLaws.{held_top, code_end_room}
use Rattle.wrap_steps.specs.WrapLaws.{drop_few, drop_done}
use Rattle.result_stack.specs.StackLaws.{top_standing, code_end}
use Rattle.wrap_steps.proofs.EntityManifestAnalysisResult.empty_paths.Goals as goal

pub returns-then-stack-eq0 : goal.returns-then-stack-eq0
returns-then-stack-eq0 c results held place = drop_few results held c.if-stack-eq0.true place

pub measure-code_end-requires : goal.measure-code_end-requires
measure-code_end-requires c =
    let (top, rest, same, held) = held_top c.requires.results c.requires.held (omega (arith, c.if-stack-eq0.false)) in
    top_standing held

pub put_before-requires : goal.put_before-requires
put_before-requires c =
    let (top, rest, same, held) = held_top c.requires.results c.requires.held (omega (arith, c.if-stack-eq0.false)) in
    code_end_room held c.requires.code_room (code_end held c.measure-code_end.ensures)

pub returns : goal.returns
returns c results held =
    drop_done results held (omega (arith, c.if-stack-eq0.false)) c.measure-code_end.ensures (rw c.word.ensures at c.put_before.ensures)
