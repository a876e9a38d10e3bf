-- The first batch by words.
use Rattle.std.specs.Prelude.{ℕ, suc, ◌≡◌, Bool, not, ◌&&◌, ◌||◌, List, eqb, drop}
use Rattle.rules.specs.Tries.{Row}
use Rattle.rules.specs.ValueRows.{ValueRow}
use Rattle.rules.specs.ValueRowTests.{attributes_from}
use Rattle.rules.specs.Typing.{is_field}
use Rattle.rules.specs.Loading.{Request, is_context_root}
use Rattle.rules.specs.WalkRows.{remaining_rows, in_context_rows}
use Rattle.rows.specs.States.{rows_of}
use Rattle.values.specs.ValueWords.{value_rows_of}
use Rattle.row_walk.specs.declared.initial.Request.{Request as Asked}

-- a request, with the context that words of values are
abbrev pub request_with : Asked → List ℕ → Request
request_with asked context = record {
  type = asked.triple;
  principal = asked.principal;
  resource = asked.resource;
  context = attributes_from 1 (value_rows_of context);
}

-- whether a row is a root below a depth, and not the context
abbrev pub asks_at : ℕ → Row → Bool
asks_at depth row = eqb row.depth (suc depth) && not (is_field row.step || is_context_root row.step)

-- The context root is at a place: what is met in the context is what its children meet.
pub record ContextAt (nodes : List ℕ) (depth from root : ℕ) : Type 0 where
  pub meets : (run : List ValueRow) → in_context_rows run depth from (rows_of (drop from nodes)) ≡ remaining_rows (rows_of nodes) root run
