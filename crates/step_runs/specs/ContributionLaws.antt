-- Laws of what analysing answers, by what the text gives. No contract cites this file.
use Rattle.std.specs.Prelude.{ℕ, ◌≡◌, refl, false, List, [], ◌∷◌, ◌++◌, ◌≢◌, drop}
use Rattle.rules.specs.Numbers.{refused}
use Rattle.rules.specs.Tries.{Row}
use Rattle.rules.specs.Listing.{read}
use Rattle.rules.specs.Schema.{Item}
use Rattle.rules.specs.Steps.{run, analyse}
use Rattle.rows.specs.States.{holding}
use Rattle.std.specs.Prelude.{Err, length}
use Rattle.std.proofs.Common.{◌∙◌}
use Rattle.words.specs.Replies.{Done, Refused as RefusedReply}
use Rattle.step_runs.specs.declared.Stop.{Stop}
use Rattle.step_runs.specs.declared.Stop.TheVariants.{Refused, Full}
use Rattle.result_stack.specs.Stacks.{trie_words}
use Rattle.step_runs.specs.StepRuns.{Finished, RanBy, AnswerStored, AnsweredBy, FullBy}
use Rattle.step_runs.specs.StepRunLaws.{ended_many, only_result, only_there}
use Rattle.result_stack.specs.declared.Stack.{Stack}

-- ---- what analysing answers, by what the text gives

-- the run was stopped
pub answered_stop :
    (items : List Item) (request : ℕ) (text out code tries code' tries' : List ℕ) (stop : Stop)
    → RanBy items text code' tries' (Err stop)
    → length code' ≡ length code
    → length tries' ≡ length tries
    → AnsweredBy (analyse items request text) out out (Err stop) × FullBy code tries (Err stop)
answered_stop items request text out code tries code' tries' (Refused refusal) e same_code same_tries = (rw e (refl, refl), tt)
answered_stop items request text out code tries code' tries' Full full same_code same_tries = (refl, λ code-length tries-length. full (same_code ∙ code-length) (same_tries ∙ tries-length))

module _ {items : List Item} {text code tries : List ℕ} {stack : Stack} {lines : ℕ} (finished : Finished items text code tries stack lines) where
  -- not one result is left
  pub answered_many : (request : ℕ) (out : List ℕ) → stack.results ≢ 1 → AnswerStored (analyse items request text) out out (RefusedReply 6 lines)
  answered_many request out many = rw (finished.ran, ended_many finished.held many request lines) (refl, refl)

  -- one result is left, and its trie is the contribution
  pub answered_one :
      stack.results ≡ 1
      → (request : ℕ) (out : List ℕ) {out' : List ℕ}
      → ((trie : List Row) (rest : List ℕ) → drop stack.tries tries ≡ trie_words trie ++ rest → out' ≡ holding out (read 0 request false ∷ trie))
      → AnswerStored (analyse items request text) out out' Done
  answered_one one request out written =
      let (top, e) = only_result finished.held one in
      rw (finished.ran, e) (refl, written top.trie [] (only_there finished.held one))
