-- What a step line and a run over step lines answer, and what the runs of the stack then hold.
use Rattle.std.specs.Prelude.{Result as Tried, Ok, Err, ℕ, ◌^◌, ◌<◌, ◌≡◌, List, length}
use Rattle.rules.specs.Numbers.{Answer, accepted, refused}
use Rattle.rules.specs.Lines.{folded}
use Rattle.rules.specs.Schema.{Item}
use Rattle.rules.specs.Tries.{Row}
use Rattle.rules.specs.Steps.{Result, step_line, run}
use Rattle.rows.specs.States.{storing}
use Rattle.words.specs.Replies.{Reply, Done}
use Rattle.result_stack.specs.Stacks.{Held, Scratch}
use Rattle.result_stack.specs.declared.Stack.{Stack}
use Rattle.step_runs.specs.declared.Stop.{Stop}
use Rattle.step_runs.specs.declared.Stop.TheVariants.{Refused, Full}
use Rattle.step_runs.specs.declared.Ran.{Ran}

-- the stack holds results, and what a step works in is as long as it needs
pub record Ready (code tries names paths trie : List ℕ) (stack : Stack) : Type 0 where
  pub results : List Result
  pub held : Held code tries stack results
  pub few_words : length code < 2 ^ 53
  pub scratch : Scratch code paths
  pub names-length : length names ≡ 32
  pub trie_length : length trie ≡ 1026

-- the runs are not the large ones, which no text fills
abbrev pub NotLarge : List ℕ → List ℕ → Type 0
NotLarge code tries = length code ≡ 212448 → length tries ≡ 33825 → ⊥

-- a step line was taken, at any place, and the stack holds the results after it
pub record TookLine (items : List Item) (line : List ℕ) (results : List Result) (code tries : List ℕ) (stack : Stack) : Type 0 where
  pub after : List Result
  pub steps : (place : ℕ) → step_line items place line results ≡ accepted after
  pub held : Held code tries stack after

abbrev pub LineTaken : List Item → List ℕ → ℕ → List ℕ → List ℕ → Stack → List ℕ → List ℕ → Tried Stack Stop → Type 0
LineTaken items line place code tries stack code' tries' (Ok next) =
    (results : List Result) → Held code tries stack results → TookLine items line results code' tries' next
LineTaken items line place code tries stack code' tries' (Err (Refused refusal)) =
    (results : List Result) → Held code tries stack results → step_line items place line results ≡ refused refusal.number refusal.place
LineTaken items line place code tries stack code' tries' (Err Full) = NotLarge code tries

-- a text was run to its end, and the stack holds the results
pub record Finished (items : List Item) (text code tries : List ℕ) (stack : Stack) (lines : ℕ) : Type 0 where
  pub results : List Result
  pub ran : run items text ≡ accepted (folded lines results)
  pub held : Held code tries stack results

abbrev pub RanBy : List Item → List ℕ → List ℕ → List ℕ → Tried Ran Stop → Type 0
RanBy items text code tries (Ok ran) = Finished items text code tries ran.stack ran.lines
RanBy items text code tries (Err (Refused refusal)) = run items text ≡ refused refusal.number refusal.place
RanBy items text code tries (Err Full) = NotLarge code tries

-- what a text is answered with
abbrev pub Answered : Type 0
Answered = Tried (Unit {0}) Stop

-- a reply, and what the buffer then holds, for rows or a refusal
abbrev pub AnswerStored : Answer (List Row) → List ℕ → List ℕ → Reply → Type 0
AnswerStored answer out out' reply = (reply ≡ (storing out answer).reply) × (out' ≡ (storing out answer).buffer)

-- where the runs are full, the buffer is as it was
abbrev pub AnsweredBy : Answer (List Row) → List ℕ → List ℕ → Answered → Type 0
AnsweredBy answer out out' (Ok done) = AnswerStored answer out out' Done
AnsweredBy answer out out' (Err (Refused refusal)) = AnswerStored answer out out' (Err refusal)
AnsweredBy answer out out' (Err Full) = out' ≡ out

-- and they are not the large ones
abbrev pub FullBy : List ℕ → List ℕ → Answered → Type 0
FullBy code tries (Ok done) = Unit
FullBy code tries (Err (Refused refusal)) = Unit
FullBy code tries (Err Full) = NotLarge code tries
