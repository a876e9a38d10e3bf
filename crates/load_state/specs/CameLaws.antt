-- What a load that was come to says of the numbers of its rows. No contract cites this file.
use Rattle.std.specs.Prelude.{ℕ, ◌-◌, ◌≤◌, ◌≡◌, List, length}
use Rattle.std.proofs.Common.{arith}
use Rattle.rules.specs.Tries.{Row}
use Rattle.rules.specs.Loading.{Load}
use Rattle.rules.proofs.LoadLaws.{rows_fit}
use Rattle.batches.specs.TakingLaws.{load_lengths}
use Rattle.load_state.specs.Transcripts.{CameTo}

module _ {words rows places : List ℕ} {count : ℕ} {nodes : List Row} {load : Load} {asked end batches sum : ℕ}
    (came : CameTo words rows places count nodes load asked end batches sum)
  where
    pub came_asked : length load.asked ≡ asked
    came_asked = omega (arith, (load_lengths nodes words rows places count end came.s load came.at).0, came.all_asked)

    pub came_waiting : length load.waiting ≡ end - asked
    came_waiting = omega (arith, (load_lengths nodes words rows places count end came.s load came.at).1, came.all_asked)

    pub came_rows : load.rows ≡ asked
    came_rows = omega (arith, came.at.going.row_count, came_asked)

    pub came_ahead : asked ≤ end
    came_ahead = omega (arith, came.all_asked, came.at.ahead)

    -- no more rows than nodes
    pub came_few : end ≤ length nodes
    came_few = omega (arith, rows_fit came.s nodes load came.at.going, came_asked, came_waiting, came_ahead)
