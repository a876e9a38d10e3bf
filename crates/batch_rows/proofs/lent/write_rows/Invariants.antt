use Rattle.std.proofs.Common.{◌≡◌, map, take}
use Rattle.batch_rows.specs.Rows.{request_of, begins}
use Rattle.batch_rows.proofs.lent.write_rows.Given as goal

abbrev pub invariant-loop-i : goal.invariant-loop-i
invariant-loop-i l = l.out ≡ begins (take l.i (map request_of l.words)) l.initial.out
