-- The rows of a batch as structs: what `load_batch_rows` answers and leaves.
use Rattle.std.specs.Prelude.{ℕ, ◌≡◌, cond, List, [], map, ◌++◌, leb, length, take, drop, replicate}
use Rattle.values.specs.ValueWords.{row_asked}
use Rattle.values.specs.declared.request.EntityRequest.{EntityRequest}
use Rattle.load_state.specs.Outcomes.{HandedOut, refusing_out}
use Rattle.std.specs.Prelude.{Ok, Err}
use Rattle.load_state.specs.LoadReplies.{LoadReply}
use Rattle.load_batch.specs.Handing.{batch_words, batch_in}

-- the row that a word is, as its struct
abbrev pub request_of : ℕ → EntityRequest
request_of word = record { id = (row_asked word).id; node = (row_asked word).node }

-- how many rows a reply tells of
abbrev pub count_of : LoadReply → ℕ
count_of (Ok counts) = counts.count
count_of (Err refusal) = 0

abbrev pub at_most : ℕ → ℕ → ℕ
at_most limit n = cond (leb n limit) n limit

-- some rows in front, and behind them what was there
abbrev pub begins : {A : Type 0} → List A → List A → List A
begins rows out = rows ++ drop (length rows) out

-- what is handed out where there is room for so many rows: 31, and otherwise what `load_batch` hands out in words of its own
unfoldable pub handed_in : List ℕ → ℕ → HandedOut
handed_in state room = cond (leb batch_words room) (batch_in state (replicate batch_words 0)) (refusing_out 31 0 state [])

-- the rows that are handed out
abbrev pub rows_in : HandedOut → List EntityRequest
rows_in handed = map request_of (take (count_of handed.reply) handed.out)

-- of a call that changes the state and writes rows
pub record RowsOut : Type 0 where
  pub reply : LoadReply
  pub state : List ℕ
  pub out : List EntityRequest

abbrev pub lent_rows : HandedOut → List EntityRequest → RowsOut
lent_rows handed out = record { reply = handed.reply; state = handed.state; out = begins (rows_in handed) out }

-- 31, 1, 16, as `load_batch` gives them; and the rows that its words are
abbrev pub batch_rows_in : List ℕ → List EntityRequest → RowsOut
batch_rows_in state out = lent_rows (handed_in state (length out)) out

abbrev pub RowsAs : RowsOut → LoadReply → List ℕ → List EntityRequest → Type 0
RowsAs outcome reply state out = (reply ≡ outcome.reply) × (state ≡ outcome.state) × (out ≡ outcome.out)
