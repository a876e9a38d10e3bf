-- What a line of a policy text, the end of a contribution and a run over a policy text answer, and what the buffers then hold.
use Rattle.std.specs.Prelude.{Option as Maybe, Some, None, Result as Tried, Ok, Err, ℕ, ◌^◌, ◌≤◌, ◌<◌, ◌≡◌, cond, List, length}
use Rattle.std.proofs.Math.Option.{Option, none, some}
use Rattle.rules.specs.Numbers.{accepted, refused}
use Rattle.rules.specs.Tries.{Row, is_entry}
use Rattle.rules.specs.Schema.{Item}
use Rattle.rules.specs.Steps.{Result}
use Rattle.rules.specs.Policies.{Begun, begin, Policy, policy, closed, policy_line, add_at, add_policy}
use Rattle.rows.specs.States.{Lent, rows_in}
use Rattle.rows.specs.declared.Kind.TheVariants.{Manifest}
use Rattle.result_stack.specs.Stacks.{Held}
use Rattle.step_runs.specs.StepRuns.{NotLarge}
use Rattle.result_stack.specs.Stacks.{Scratch}
use Rattle.words.specs.Replies.{Reply}
use Rattle.step_runs.specs.declared.Stop.{Stop}
use Rattle.step_runs.specs.declared.Stop.TheVariants.{Refused, Full}
use Rattle.policy_runs.specs.declared.Reading.{Reading}

-- of a row that was read, if any, with the place of its line's LF
abbrev pub request_of_row : Option (Row × ℕ) → Option ℕ
request_of_row none = none
request_of_row (some (row, end)) = cond (is_entry row) (some row.step) none

-- rows that a manifest's buffer holds
abbrev pub LentManifest : List ℕ → Type 0
LentManifest rows = Lent Manifest rows (rows_in rows)

-- the stack of what has begun holds results, and its request type is one
abbrev pub HeldBy : List ℕ → List ℕ → Maybe Reading → List Result → Type 0
HeldBy code tries None results = Unit
HeldBy code tries (Some begun) results = Held code tries begun.stack results

abbrev pub SmallBy : Maybe Reading → Type 0
SmallBy None = Unit
SmallBy (Some begun) = begun.request < 2 ^ 48

-- and the tries of those results stand in a run
pub record Open (tries : List ℕ) (reading : Maybe Reading) : Type 0 where
  pub code : List ℕ
  pub results : List Result
  pub held : HeldBy code tries reading results
  pub small : SmallBy reading

-- and what a step works in is as long as it needs
pub record PolicyReady (code tries names paths trie : List ℕ) (reading : Maybe Reading) : Type 0 where
  pub results : List Result
  pub held : HeldBy code tries reading results
  pub small : SmallBy reading
  pub few_words : length code < 2 ^ 53
  pub scratch : Scratch code paths
  pub names-length : length names ≡ 32
  pub trie_length : length trie ≡ 1026

-- there is room to add a contribution to a manifest
pub record RoomToAdd (contribution united rows : List ℕ) : Type 0 where
  pub contribution_room : 1026 ≤ length contribution
  pub united_room : 4161 ≤ length united
  pub lent : LentManifest rows

-- what has begun, with its results
abbrev pub begun_in : Maybe Reading → List Result → Option Begun
begun_in None results = none
begun_in (Some begun) results = some (begin begun.request results)

-- where a policy text has come to: the rows of a manifest, and what has begun
abbrev pub policy_in : List ℕ → Maybe Reading → List Result → Policy (List Row)
policy_in rows reading results = policy (rows_in rows) (begun_in reading results)

-- the contribution that has begun was ended at any place, whatever the schema, and the manifest has what that came to
pub record Ended (reading : Maybe Reading) (results : List Result) (rows rows' : List ℕ) : Type 0 where
  pub ends : (items : List Item) (place : ℕ) → closed add_at items place (policy_in rows reading results) ≡ accepted (rows_in rows')
  pub lent : LentManifest rows'

abbrev pub ClosedBy : List ℕ → Maybe Reading → ℕ → List ℕ → List ℕ → Reply → Type 0
ClosedBy tries reading place rows rows' (Ok done) =
    (code : List ℕ) (results : List Result) → HeldBy code tries reading results → Ended reading results rows rows'
ClosedBy tries reading place rows rows' (Err refusal) =
    (code : List ℕ) (results : List Result)
    → HeldBy code tries reading results
    → (items : List Item)
    → closed add_at items place (policy_in rows reading results) ≡ refused refusal.number refusal.place

-- a line was taken at any place, and the buffers hold what it came to
pub record TookPolicyLine (items : List Item) (line rows : List ℕ) (reading : Maybe Reading) (results : List Result) (rows' code' tries' : List ℕ) (next : Reading) : Type 0 where
  pub after : List Result
  pub takes : (place : ℕ) → policy_line add_at items place line (policy_in rows reading results) ≡ accepted (policy_in rows' (Some next) after)
  pub held : Held code' tries' next.stack after
  pub small : next.request < 2 ^ 48
  pub lent : LentManifest rows'

abbrev pub PolicyTakenBy : List Item → List ℕ → ℕ → List ℕ → List ℕ → List ℕ → Maybe Reading → List ℕ → List ℕ → List ℕ → Tried Reading Stop → Type 0
PolicyTakenBy items line place code tries rows reading code' tries' rows' (Ok next) =
    (results : List Result) → HeldBy code tries reading results → TookPolicyLine items line rows reading results rows' code' tries' next
PolicyTakenBy items line place code tries rows reading code' tries' rows' (Err (Refused refusal)) =
    (results : List Result)
    → HeldBy code tries reading results
    → policy_line add_at items place line (policy_in rows reading results) ≡ refused refusal.number refusal.place
PolicyTakenBy items line place code tries rows reading code' tries' rows' (Err Full) = NotLarge code tries

-- all contributions of a text were added
pub record PolicyAdded (items : List Item) (text rows rows' : List ℕ) : Type 0 where
  pub adds : add_policy items (rows_in rows) text ≡ accepted (rows_in rows')
  pub lent : LentManifest rows'

abbrev pub PolicyRanBy : List Item → List ℕ → List ℕ → List ℕ → List ℕ → List ℕ → Tried (Unit {0}) Stop → Type 0
PolicyRanBy items text code tries rows rows' (Ok done) = PolicyAdded items text rows rows'
PolicyRanBy items text code tries rows rows' (Err (Refused refusal)) = add_policy items (rows_in rows) text ≡ refused refusal.number refusal.place
PolicyRanBy items text code tries rows rows' (Err Full) = NotLarge code tries
