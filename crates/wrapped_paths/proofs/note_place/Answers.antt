-- `wrapped_paths::note_place` meets its contract: the place comes behind the others.
use Rattle.wrapped_paths.specs.CodeLaws.{noted_one}
use Rattle.wrapped_paths.proofs.note_place.Goals as goal

pub returns : goal.returns
returns c = noted_one _ _ _ c.requires
