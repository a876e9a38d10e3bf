use Prim.Native.Nat.{◌≤◌}
use lib.ListN.{length}
use Rattle.rules.specs.Schema.{attribute_line, literal_line}
use Rattle.node_types.specs.PlacesLaws.{Tabling, Reaches}
use Rattle.node_types.proofs.places.Places.of.Given as goal

abbrev pub invariant-loop-at : goal.invariant-loop-at
invariant-loop-at l =
    (l.at ≤ length l.words) × Tabling l.words l.entities l.count l.at × Reaches attribute_line l.words l.literals l.at × Reaches literal_line l.words l.actions l.at
