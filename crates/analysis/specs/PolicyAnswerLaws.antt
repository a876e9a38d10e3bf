-- Laws of what adding a policy text answers, by what the run over a copy of the manifest gives. No contract cites this file.
use Rattle.std.specs.Prelude.{ℕ, ◌+◌, ◌≤◌, ◌≡◌, refl, List, length, take, get_or}
use Rattle.std.proofs.Common.{◌∙◌}
use Rattle.std.proofs.lemmas.List.Edits.{sets}
use Rattle.rules.specs.Numbers.{refused}
use Rattle.rules.specs.Schema.{Item}
use Rattle.rules.specs.Policies.{add_policy}
use Rattle.words.specs.Replies.{Done, Refused}
use Rattle.rows.specs.States.{rows_in}
use Rattle.rows.specs.LentLaws.{stored_lent, lent_lawful, lent_copied}
use Rattle.rows.specs.declared.Kind.TheVariants.{Manifest}
use Rattle.std.specs.Prelude.{Err}
use Rattle.policy_runs.specs.PolicyRuns.{LentManifest, PolicyAdded, PolicyRanBy}
use Rattle.step_runs.specs.declared.Stop.{Stop}
use Rattle.step_runs.specs.declared.Stop.TheVariants.{Refused as RefusedText, Full}
use Rattle.step_runs.specs.StepRuns.{AnswerStored, AnsweredBy, FullBy}

module _ (m out : List ℕ) (lent : LentManifest m) (room : 4161 ≤ length out) where
  -- a copy of its rows is a lent manifest too, and has its rows
  pub copy_lent :
      {rows : List ℕ}
      → rows ≡ sets out 0 (take (get_or m 0 0 + 1) m)
      → LentManifest rows × (rows_in rows ≡ rows_in m)
  copy_lent e =
      let same = e ∙ lent_copied Manifest m out (rows_in m) lent in
      let held = stored_lent Manifest out (rows_in m) room (lent_lawful Manifest m (rows_in m) lent) in
      rw same (record { long = held.long; lawful-state = held.lawful-state; has_rows = refl }, held.has_rows)

module _ (items : List Item) (text m rows : List ℕ) (same : rows_in rows ≡ rows_in m) where
  -- the run was refused
  pub added_refused :
      {number place : ℕ}
      → add_policy items (rows_in rows) text ≡ refused number place
      → AnswerStored (add_policy items (rows_in m) text) m m (Refused number place)
  added_refused e = rw (rw same at e) (refl, refl)

  -- or it stopped otherwise
  pub added_stop :
      (code tries rows' : List ℕ) (stop : Stop)
      → PolicyRanBy items text code tries rows rows' (Err stop)
      → AnsweredBy (add_policy items (rows_in m) text) m m (Err stop) × FullBy code tries (Err stop)
  added_stop code tries rows' (RefusedText refusal) e = (added_refused e, tt)
  added_stop code tries rows' Full full = (refl, full)

  -- all was added, and the copy's rows take the manifest's place
  pub added_done :
      {rows' m' : List ℕ}
      → PolicyAdded items text rows rows'
      → m' ≡ sets m 0 (take (get_or rows' 0 0 + 1) rows')
      → AnswerStored (add_policy items (rows_in m) text) m m' Done
  added_done {rows'} added e = rw (rw same at added.adds) (refl, e ∙ lent_copied Manifest rows' m (rows_in rows') added.lent)
