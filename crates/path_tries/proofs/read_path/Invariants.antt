use Prim.Native.Nat.{◌<◌}
use mathlib.Core.Path.{◌≡◌}
use lib.ListN.{length}
use Rattle.wrapped_paths.specs.Code.{path_at}
use Rattle.path_tries.specs.NodeLaws.{PathReading}
use Rattle.path_tries.proofs.read_path.Given as goal

abbrev pub invariant-loop-i : goal.invariant-loop-i
invariant-loop-i l = (length l.path ≡ length l.initial.path) × ((0 < l.i) × PathReading (path_at l.code l.at) l.path l.i)
