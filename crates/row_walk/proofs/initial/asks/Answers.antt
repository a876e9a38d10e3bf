-- `row_walk::initial::asks` meets its contract: the row is one below the depth, and neither a field nor the context.
use native.Mathlib.Omega.{arith}
use mathlib.Core.Path.{◌≡◌, sym, ap, ◌∙◌}
use Rattle.rules.specs.Tries.{kind_of}
use Rattle.rows.specs.Words.{row_in, step_in}
use Rattle.row_walk.specs.InitialLaws.{asks_above, asks_deeper, asks_field, asks_root}
use Rattle.row_walk.proofs.initial.asks.Goals as goal
use Rattle.row_walk.proofs.initial.asks.Goals.{After-from-kind}

-- the step's kind
kind-of : (c : After-from-kind) → c.from-kind.result.kind ≡ kind_of (step_in c.args.row.word)
kind-of c = c.from-kind.ensures.0 ∙ ap kind_of c.step.ensures

pub returns-then-there-depth : goal.returns-then-there-depth
returns-then-there-depth c = sym (asks_above c.args.depth (row_in c.args.row.word) (omega arith))

pub returns-then-there-depth-2 : goal.returns-then-there-depth-2
returns-then-there-depth-2 c = sym (asks_deeper c.args.depth (row_in c.args.row.word) (λ e. omega arith))

pub returns-then-kind-eq0 : goal.returns-then-kind-eq0
returns-then-kind-eq0 c = sym (asks_field c.args.depth (row_in c.args.row.word) (omega arith) (sym (kind-of (goal.at.returns-then-kind-eq0 c).After-from-kind) ∙ c.if-kind-eq0.true))

pub returns : goal.returns
returns c =
    rw (kind-of (goal.at.returns c).After-from-kind) (sym (asks_root c.args.depth (row_in c.args.row.word) (omega arith) (λ e. c.if-kind-eq0.false (kind-of (goal.at.returns c).After-from-kind ∙ e))))
