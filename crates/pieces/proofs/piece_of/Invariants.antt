-- `pieces::piece_of` is safe: the place is one of the text.
use Prim.Native.Nat.{◌≤◌}
use lib.ListN.{length}
use Rattle.pieces.proofs.piece_of.Given as goal

abbrev pub invariant-loop : goal.invariant-loop
invariant-loop l = l.from ≤ length l.text
