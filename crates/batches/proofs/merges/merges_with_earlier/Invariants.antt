use mathlib.Core.Path.{◌≡◌}
use lib.ListN.{length}
use Rattle.batches.specs.Hearings.{heard_at}
use Rattle.batches.specs.HearingLaws.{MergedSofar}
use Rattle.batches.proofs.merges.merges_with_earlier.Given as goal

abbrev pub invariant-loop-i : goal.invariant-loop-i
invariant-loop-i l = MergedSofar l.words l.rows l.places l.id (heard_at l.words l.at) l.i × (length l.scratch ≡ length l.initial.scratch)
