-- `wrapped_paths::note_path` meets its contract: only the head of a path is noted.
use native.Mathlib.Omega.{arith}
use Rattle.wrapped_paths.specs.CodeLaws.{noted_none, no_places}
use Rattle.wrapped_paths.proofs.note_path.Goals as goal

pub returns-in-AccessPath : goal.returns-in-AccessPath
returns-in-AccessPath c = rw c.in-AccessPath.is c.note_place.ensures

pub returns-in_default : goal.returns-in_default
returns-in_default c = rw (no_places _ _ c.in_default.not-AccessPath) (noted_none _ _ (omega (arith, c.requires)))
