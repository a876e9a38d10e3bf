use Rattle.type_table.specs.TypeTableLaws.{Filling}
use Rattle.type_table.proofs.fill_table.Given as goal

abbrev pub invariant-loop-at : goal.invariant-loop-at
invariant-loop-at l = Filling l.words l.table l.types l.at
