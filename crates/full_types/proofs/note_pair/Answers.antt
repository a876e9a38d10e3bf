-- `full_types::note_pair` meets its contract: only the head of a path is noted.
use native.Mathlib.Omega.{arith}
use Rattle.wrapped_paths.specs.CodeLaws.{noted_none, noted_one}
use Rattle.full_types.specs.RequiredLaws.{no_pairs}
use Rattle.full_types.proofs.note_pair.Goals as goal

pub returns-in-AccessPath : goal.returns-in-AccessPath
returns-in-AccessPath c =
    rw (c.in-AccessPath.is, c.word.ensures) (noted_one c.args.pairs.now c.args.count _ c.requires.room)

pub returns-in_default : goal.returns-in_default
returns-in_default c = rw (no_pairs _ _ _ c.in_default.not-AccessPath) (noted_none _ _ (omega (arith, c.requires.room)))
