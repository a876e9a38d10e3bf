-- Laws of a policy text that is run line by line. No contract cites this file.
use Rattle.std.specs.Prelude.{ℕ, ◌+◌, ◌-◌, ◌^◌, ◌≤◌, ◌<◌, ◌≡◌, refl, true, false, cond, List, [], ◌∷◌, ◌≢◌, length, take, drop}
use Rattle.std.proofs.Common.{arith, sym, ap, ◌∙◌}
use Rattle.std.proofs.Math.Option.{Option, none, some}
use Rattle.rules.specs.Numbers.{Answer, accepted, refused}
use Rattle.rules.specs.Tries.{Row, is_entry}
use Rattle.rules.specs.Text.{fields_of}
use Rattle.rules.specs.Listing.{read, row_of, ◌>>=◌}
use Rattle.rules.specs.Schema.{Item}
use Rattle.rules.specs.Steps.{Result, step_line}
use Rattle.rules.specs.Building.{add}
use Rattle.rules.proofs.BuildingLaws.{after_lawful}
use Rattle.rules.proofs.AnalysisLaws.{ended_lawful}
use Rattle.rules.proofs.PolicyLaws.{request_below}
use Rattle.rules.specs.Policies.{request_in, policy, closed, policy_line, add_at, add_policy}
use Rattle.text.specs.Answers.{line_at}
use Rattle.text.proofs.Laws.{whole_line, cut_line}
use Rattle.text.proofs.FoldLaws.{CameTo, came_start, came_end, came_cut, came_refused, came_next}
use Rattle.text.specs.declared.Line.{Line}
use Rattle.text.specs.declared.Line.TheVariants.{Whole}
use Rattle.listing_lines.specs.Lines.{ended_at, row_at}
use Rattle.listing_lines.specs.LineLaws.{line_read}
use Rattle.schema.specs.Items.{items_of}
use Rattle.step_runs.specs.StepRuns.{TookLine, LineTaken}
use Rattle.words.specs.Replies.{Reply, Done, Refused}
use Rattle.rows.specs.States.{Lent, rows_in, holding, storing}
use Rattle.rows.specs.LentLaws.{stored_lent, lent_lawful}
use Rattle.rows.specs.declared.Kind.TheVariants.{Contribution, Manifest}
use Rattle.result_stack.specs.Stacks.{Held}
use Rattle.step_runs.specs.StepRunLaws.{ended_many}
use Rattle.policy_runs.specs.declared.Reading.{Reading}
use Rattle.std.specs.Prelude.{Option as Maybe, Some, None, Ok, Err}
use Rattle.step_runs.specs.declared.Stop.{Stop}
use Rattle.step_runs.specs.declared.Stop.TheVariants.{Refused as RefusedLine, Full as FullRuns}
use Rattle.policy_runs.specs.PolicyRuns.{request_of_row, LentManifest, HeldBy, SmallBy, policy_in, Ended, TookPolicyLine, PolicyTakenBy, PolicyAdded, PolicyRanBy}

-- ---- the end of a contribution

-- none has begun
pub closed_none : (rows : List ℕ) (results : List Result) → LentManifest rows → Ended None results rows rows
closed_none rows results lent = record { ends = λ items place. refl; lent = lent }

-- not one result is left
pub closed_many :
    (rows : List ℕ) (begun : Reading) (results : List Result) (items : List Item) (place : ℕ) {code tries : List ℕ}
    → Held code tries begun.stack results
    → begun.stack.results ≢ 1
    → closed add_at items place (policy_in rows (Some begun) results) ≡ refused 6 place
closed_many rows begun results items place held many = rw (ended_many held many begun.request place)

-- the number of a refusal
abbrev number_in : Reply → ℕ
number_in (Ok done) = 0
number_in (Err refusal) = refusal.number

-- one result is left: its trie under the request type is added
module _
    {code tries : List ℕ} {reading : Reading} {results : List Result}
    (held : Held code tries reading.stack results)
    (small : reading.request < 2 ^ 48)
    (top : Result) (only : results ≡ top ∷ []) where
  abbrev contributed : List Row
  contributed = read 0 reading.request false ∷ top.trie

  closed_one : (rows : List ℕ) (items : List Item) (place : ℕ) → closed add_at items place (policy_in rows (Some reading) results) ≡ add_at place contributed (rows_in rows)
  closed_one rows items place = rw only

  -- it is a contribution
  pub contributed_lent :
      (out : List ℕ) {out' : List ℕ}
      → 1026 ≤ length out
      → out' ≡ holding out (read 0 reading.request false ∷ top.trie)
      → Lent Contribution out' (read 0 reading.request false ∷ top.trie)
  contributed_lent out room written =
      rw written
      (stored_lent Contribution out contributed room (ended_lawful reading.request 0 results small held.good (rw only)))

  module _ (rows given : List ℕ) {rows' : List ℕ} {reply : Reply}
      (lent : LentManifest rows)
      (lent-given : Lent Contribution given (read 0 reading.request false ∷ top.trie))
      (replied : reply ≡ (storing rows (add (rows_in rows) (rows_in given))).reply)
      (stored : rows' ≡ (storing rows (add (rows_in rows) (rows_in given))).buffer) where
    -- what adding it answers is what the end of the contribution answers
    pub closed_added : reply ≡ Done → Ended (Some reading) results rows rows'
    closed_added done = go (add (rows_in rows) contributed) refl
      where
        same : add (rows_in rows) (rows_in given) ≡ add (rows_in rows) contributed
        same = ap (add (rows_in rows)) lent-given.has_rows

        go : (answer : Answer (List Row)) → add (rows_in rows) contributed ≡ answer → Ended (Some reading) results rows rows'
        go (accepted more) e =
            let lawful-more = rw e at (after_lawful (rows_in rows) contributed (lent_lawful Manifest rows (rows_in rows) lent) (lent_lawful Contribution given contributed lent-given)) in
            let held_more = stored_lent Manifest rows more lent.long lawful-more in
            let left : rows' ≡ holding rows more = stored ∙ ap (λ (o : Answer (List Row)). (storing rows o).buffer) (same ∙ e) in
            let has : rows_in rows' ≡ more = ap rows_in left ∙ held_more.has_rows in
            record {
              ends = λ items place. closed_one rows items place ∙ rw (e, add_at, has);
              lent = record { long = rw left held_more.long; lawful-state = rw left held_more.lawful-state; has_rows = refl };
            }
        go (refused number at) e =
            let told : Refused number at ≡ Done = sym (replied ∙ ap (λ (o : Answer (List Row)). (storing rows o).reply) (same ∙ e)) ∙ done in
            absurd (let z : ◌≡◌ {A = ℕ} 0 1 = cc in omega arith)

    pub closed_refused :
        {number at : ℕ}
        → reply ≡ Refused number at
        → (items : List Item) (place : ℕ)
        → closed add_at items place (policy_in rows (Some reading) results) ≡ refused number place
    closed_refused {number} {at} told items place = closed_one rows items place ∙ go (add (rows_in rows) contributed) refl
      where
        same : add (rows_in rows) (rows_in given) ≡ add (rows_in rows) contributed
        same = ap (add (rows_in rows)) lent-given.has_rows

        go : (answer : Answer (List Row)) → add (rows_in rows) contributed ≡ answer → add_at place contributed (rows_in rows) ≡ refused number place
        go (accepted more) e =
            let done : Done ≡ Refused number at = sym (replied ∙ ap (λ (o : Answer (List Row)). (storing rows o).reply) (same ∙ e)) ∙ told in
            absurd (let z : ◌≡◌ {A = ℕ} 0 1 = cc in omega arith)
        go (refused n p) e =
            let told_so : Refused n p ≡ Refused number at = sym (replied ∙ ap (λ (o : Answer (List Row)). (storing rows o).reply) (same ∙ e)) ∙ told in
            let number_same : n ≡ number = ap number_in told_so in
            rw (e, add_at, number_same)

-- ---- one line

module _ (items : List Item) (line rows : List ℕ) (reading : Maybe Reading) (results : List Result) where
  module _ {request : ℕ} (opens : request_in line ≡ some request) where
    -- an `A` line ends the contribution before it and begins one
    pub opened_took :
        {rows' code' tries' : List ℕ} {next : Reading}
        → Ended reading results rows rows'
        → next.request ≡ request
        → Held code' tries' next.stack []
        → TookPolicyLine items line rows reading results rows' code' tries' next
    opened_took ended same held = record {
      after = [];
      takes = λ place. rw (opens, policy_line, ended.ends items place, same);
      held = held;
      small = rw same (request_below line request opens);
      lent = ended.lent;
    }

    pub opened_stopped :
        (at : ℕ) {number place : ℕ}
        → ((items : List Item) → closed add_at items at (policy_in rows reading results) ≡ refused number place)
        → policy_line add_at items at line (policy_in rows reading results) ≡ refused number place
    opened_stopped at stopped = rw (opens, policy_line, stopped items)

module _ (items : List Item) (line rows : List ℕ) (results : List Result) (other : request_in line ≡ none) where
  -- a step line before any `A` line
  pub step_unbegun : (place : ℕ) → policy_line add_at items place line (policy_in rows None results) ≡ refused 1 place
  step_unbegun place = rw (other, policy_line)

  -- a step line of the contribution that has begun
  module _ (begun : Reading) where
    pub step_took :
        {code' tries' : List ℕ} {next : Reading}
        → next.request ≡ begun.request
        → begun.request < 2 ^ 48
        → LentManifest rows
        → TookLine items line results code' tries' next.stack
        → TookPolicyLine items line rows (Some begun) results rows code' tries' next
    step_took same small lent took = record {
      after = took.after;
      takes = λ place. rw (other, policy_line, took.steps place, same);
      held = took.held;
      small = rw same small;
      lent = lent;
    }

-- why one is not taken
pub step_stop :
    (items : List Item) (line rows : List ℕ) (other : request_in line ≡ none) (begun : Reading) (at : ℕ) (code tries rows' code' tries' : List ℕ) (stop : Stop)
    → LineTaken items line at code tries begun.stack code' tries' (Err stop)
    → PolicyTakenBy items line at code tries rows (Some begun) code' tries' rows' (Err stop)
step_stop items line rows other begun at code tries rows' code' tries' (RefusedLine refusal) stopped = λ results held. rw (other, policy_line, stopped results held)
step_stop items line rows other begun at code tries rows' code' tries' FullRuns full = full

-- ---- running from line to line

-- the lines that were passed came to what the buffers hold
pub record RunningPolicy (words text rows₀ rows code tries : List ℕ) (reading : Maybe Reading) (at line : ℕ) : Type 0 where
  pub results : List Result
  pub held : HeldBy code tries reading results
  pub small : SmallBy reading
  pub lent : LentManifest rows
  pub came : CameTo (policy_line add_at (items_of words)) (policy (rows_in rows₀) none) text at line (policy_in rows reading results)

pub running_begins : (words text rows code tries : List ℕ) → LentManifest rows → RunningPolicy words text rows rows code tries None 0 0
running_begins words text rows code tries lent = record {
  results = [];
  held = tt;
  small = tt;
  lent = lent;
  came = came_start (policy_line add_at (items_of words)) (policy (rows_in rows) none) text;
}

module _ {words text rows₀ rows code tries : List ℕ} {reading : Maybe Reading} {at line : ℕ}
    (running : RunningPolicy words text rows₀ rows code tries reading at line) where
  -- the next line has no LF
  pub running_uncut :
      {r : Line}
      → r ≡ line_at text at
      → ((end : ℕ) → r ≡ Whole end → ⊥)
      → at < length text
      → add_policy (items_of words) (rows_in rows₀) text ≡ refused 1 line
  running_uncut {r} ensured unended more = rw (came_cut running.came more (cut_line text at r ensured unended))

  module _ {end : ℕ} {r : Line} (ensured : r ≡ line_at text at) (e : r ≡ Whole end) where
    -- what the next line is
    pub running_request : {opened : Option ℕ} → opened ≡ request_of_row (row_at text at) → opened ≡ request_in (take (end - at) (drop at text))
    running_request given = given ∙ rw (line_read (whole_line text at end r ensured e)) (go (row_of (fields_of (take (end - at) (drop at text)))))
      where
        go : (row : Option Row) → request_of_row (ended_at end row) ≡ (row >>= (λ r. cond (is_entry r) (some r.step) none))
        go none = refl
        go (some row) = refl

    -- it is refused
    pub running_refused :
        {number place : ℕ}
        → ((results : List Result)
        → HeldBy code tries reading results
        → policy_line add_at (items_of words) line (take (end - at) (drop at text)) (policy_in rows reading results) ≡ refused number place)
        → add_policy (items_of words) (rows_in rows₀) text ≡ refused number place
    running_refused stopped =
        rw (came_refused running.came (whole_line text at end r ensured e) (stopped running.results running.held))

    -- and the run ends there
    pub running_stops :
        (code₀ tries₀ rows' code' tries' : List ℕ) (stop : Stop)
        → PolicyTakenBy (items_of words) (take (end - at) (drop at text)) line code tries rows reading code' tries' rows' (Err stop)
        → length code ≡ length code₀
        → length tries ≡ length tries₀
        → PolicyRanBy (items_of words) text code₀ tries₀ rows₀ rows' (Err stop)
    running_stops code₀ tries₀ rows' code' tries' (RefusedLine refusal) stopped same_code same_tries = running_refused stopped
    running_stops code₀ tries₀ rows' code' tries' FullRuns full same_code same_tries = λ code-length tries-length. full (same_code ∙ code-length) (same_tries ∙ tries-length)

    -- it is taken
    pub running_takes :
        {rows' code' tries' : List ℕ} {next : Reading}
        → ((results : List Result)
        → HeldBy code tries reading results
        → TookPolicyLine (items_of words) (take (end - at) (drop at text)) rows reading results rows' code' tries' next)
        → RunningPolicy words text rows₀ rows' code' tries' (Some next) (end + 1) (line + 1)
    running_takes taking =
        let took = taking running.results running.held in
        record {
          results = took.after;
          held = took.held;
          small = took.small;
          lent = took.lent;
          came = came_next running.came (whole_line text at end r ensured e) (took.takes line);
        }

  -- no line is left: the contribution that has begun ends
  module _ (all : length text ≤ at) where
    pub running_ends :
        {rows' : List ℕ}
        → ((code : List ℕ) (results : List Result) → HeldBy code tries reading results → Ended reading results rows rows')
        → PolicyAdded (items_of words) text rows₀ rows'
    running_ends ending =
        let ended = ending code running.results running.held in
        record { adds = rw (came_end running.came all) (ended.ends (items_of words) line); lent = ended.lent }

    pub running_unended :
        {number place : ℕ}
        → ((code : List ℕ) (results : List Result)
        → HeldBy code tries reading results
        → (items : List Item)
        → closed add_at items line (policy_in rows reading results) ≡ refused number place)
        → add_policy (items_of words) (rows_in rows₀) text ≡ refused number place
    running_unended stopped = rw (came_end running.came all) (stopped code running.results running.held (items_of words))
