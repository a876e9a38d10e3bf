-- `wrap_steps::EntityManifestAnalysisResult::union` meets its contract: the two results on top are wrapped under the head of a union.
use native.Mathlib.Omega.{arith}
use Rattle.rules.specs.Steps.{union_results}
use Rattle.result_stack.specs.StackLaws.{two_few}
use Rattle.wrap_steps.specs.WrapLaws.{union_done}
use Rattle.wrap_steps.proofs.EntityManifestAnalysisResult.union.Goals as goal

pub returns-then-stack-lt2 : goal.returns-then-stack-lt2
returns-then-stack-lt2 c results held place = two_few results held union_results c.if-stack-lt2.true place

pub returns : goal.returns
returns c results held =
    union_done results held c.wrap.new.code c.wrap.new.tries c.wrap.result (omega (arith, c.if-stack-lt2.false)) (rw c.word.ensures at c.wrap.ensures)
