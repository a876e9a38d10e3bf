use Rattle.entries.specs.EntryLaws.{EntryAhead}
use Rattle.entries.proofs.entry.nodes_ahead.Given as goal

abbrev pub invariant-loop-i : goal.invariant-loop-i
invariant-loop-i l = EntryAhead l.rows l.i
