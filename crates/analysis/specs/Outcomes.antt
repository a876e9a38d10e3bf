-- What `analysis` answers, and what the lent buffer then holds.
use Rattle.std.specs.Prelude.{ℕ, ◌^◌, ◌≤◌, ◌<◌, Bool, cond, ◌&&◌, List, leb, ltb, length}
use Rattle.rules.specs.Numbers.{Answer}
use Rattle.rules.specs.Tries.{Row, manifest}
use Rattle.rules.specs.Schema.{Item}
use Rattle.rules.specs.Steps.{analyse}
use Rattle.rules.specs.Policies.{add_policy}
use Rattle.words.specs.Runs.{Outcome, refusing}
use Rattle.rows.specs.States.{lawful_state, rows_in, Lent, storing}
use Rattle.rows.specs.declared.Kind.TheVariants.{Manifest}
use Rattle.schema.specs.Items.{schema_words, lawful_schema, items_in}
use Rattle.analysis.specs.declared.Job.{Job}
use Rattle.analysis.specs.declared.Job.TheVariants.{Steps, Policy}

-- an operation with a schema that stores rows: 31 where it or the buffer is too short, then 1 at 0 where it or what else is lent is not
-- lawful, then what the text gives by line
abbrev pub with_schema : List ℕ → ℕ → Bool → List ℕ → Answer (List Row) → Outcome
with_schema schema words else-lawful out answer =
    cond (leb schema_words (length schema) && leb words (length out))
    (cond (lawful_schema schema && else-lawful) (storing out answer) (refusing 1 0 out))
    (refusing 31 0 out)

-- analysing steps: a number that is no request type is 1 too
unfoldable pub analyse_in : List ℕ → ℕ → List ℕ → List ℕ → Outcome
analyse_in schema request text out = with_schema schema 1026 (ltb request (2 ^ 48)) out (analyse (items_in schema) request text)

-- adding a policy text to a lent manifest
unfoldable pub add_policy_in : List ℕ → List ℕ → List ℕ → Outcome
add_policy_in schema text m = with_schema schema 4161 (lawful_state manifest m) m (add_policy (items_in schema) (rows_in m) text)

-- what is asked of a text gives rows, or a refusal
abbrev pub answer_to : List Item → Job → List ℕ → List ℕ → Answer (List Row)
answer_to items (Steps request) text out = analyse items request text
answer_to items Policy text out = add_policy items (rows_in out) text

-- the buffer that takes them: long enough for a contribution under a request type, or a lent manifest
abbrev pub JobLent : Job → List ℕ → Type 0
JobLent (Steps request) out = (request < 2 ^ 48) × (1026 ≤ length out)
JobLent Policy out = Lent Manifest out (rows_in out)
