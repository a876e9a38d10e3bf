use mathlib.Core.List.{[]}
use Rattle.row_walk.specs.Initial.{request_with}
use Rattle.row_walk.specs.InitialLaws.{Asking}
use Rattle.row_walk.proofs.initial.ask_roots.Given as goal

abbrev pub invariant-loop-i : goal.invariant-loop-i
invariant-loop-i l = Asking l.nodes (request_with l.request []) l.depth l.from l.initial.out l.to l.out l.i l.at
