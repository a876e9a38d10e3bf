use Prim.Native.Nat.{◌≤◌}
use mathlib.Core.Path.{◌≡◌}
use lib.ListN.{drop}
use Rattle.rules.specs.LoadCalls.{entry_for}
use Rattle.rows.specs.States.{rows_of}
use Rattle.entries.proofs.entry.find_entry.Given as goal

abbrev pub invariant-loop-at : goal.invariant-loop-at
invariant-loop-at l =
    (l.nodes ≤ l.at) × (entry_for l.request 0 (rows_of l.rows) ≡ entry_for l.request l.nodes (rows_of (drop l.at l.rows)))
