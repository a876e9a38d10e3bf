-- `wrap_steps::EntityManifestAnalysisResult::default` meets its contract: empty paths are pushed.
use mathlib.Core.Path.{refl}
use Rattle.rules.specs.Paths.{Empty, nodes_of}
use Rattle.wrapped_paths.specs.Code.{code}
use Rattle.wrap_steps.proofs.EntityManifestAnalysisResult.default.Goals as goal

pub returns : goal.returns
unfolding code nodes_of
returns c results held = c.push.ensures Empty results (rw c.word.ensures) refl held
