-- `row_walk::initial::ask_roots` meets its contract: the rows of the roots that are passed are written.
use native.Mathlib.Omega.{arith}
use Prim.Native.Nat.{◌<◌}
use mathlib.Core.List.{[]}
use mathlib.Core.Path.{sym, ◌∙◌}
use lib.ListN.{length}
use Rattle.row_walk.specs.Initial.{request_with}
use Rattle.row_walk.specs.BatchLaws.{gathered_none}
use Rattle.row_walk.specs.InitialLaws.{named_small, asking_length, asking_last, asking_above, asking_room, asking_row, asking_other}
use Rattle.row_walk.proofs.initial.ask_roots.Goals as goal
use Rattle.row_walk.proofs.initial.ask_roots.Goals.{After-entity_named-id, else-asks, then-asks}

pub loop-i-init : goal.loop-i-init
loop-i-init c = record { room = c.requires.nodes_in_bounds; gathered = gathered_none _ _ _ }

pub shape_of-out-then-depth : goal.shape_of-out-then-depth
shape_of-out-then-depth c = asking_length c.loop-i.invariant

pub returns-then-depth : goal.returns-then-depth
returns-then-depth c = asking_above c.loop-i.invariant c.loop-i-test.true (omega arith)

-- there is room for a root's row, and its entity's id is small
inside : (c : After-entity_named-id) →
    (c.loop-i.i < length c.args.nodes.now) × (c.entity_named-id.result < 65536) × (c.loop-i.at < length c.args.out.now)
inside c = (
  c.loop-i-test.true,
  rw c.entity_named-id.ensures (named_small (request_with c.args.request []) c.step.result c.requires.nodes_len_bound.1 c.requires.nodes_len_bound.2),
  asking_room c.loop-i.invariant c.loop-i-test.true (omega arith) (sym c.asks.ensures ∙ c.if-asks.true),
)

pub word-requires : goal.word-requires
word-requires c = (omega (arith, inside (goal.at.word-requires c).After-entity_named-id), omega (arith, inside (goal.at.word-requires c).After-entity_named-id))

pub offset_bounds-out-at : goal.offset_bounds-out-at
offset_bounds-out-at c = omega (arith, inside (goal.at.offset_bounds-out-at c).After-entity_named-id)

pub bounds-out-at : goal.bounds-out-at
bounds-out-at c = omega (arith, inside (goal.at.bounds-out-at c).After-entity_named-id, asking_length c.loop-i.invariant)

pub overflow_add-at : goal.overflow_add-at
overflow_add-at c = omega (arith, inside (goal.at.overflow_add-at c).After-entity_named-id)

pub loop-i-preserved : goal.loop-i-preserved
loop-i-preserved c =
    elim c.if-asks.branch [ then-asks w ↦ rw (w.out-is, w.at-is, w.word.ensures, w.entity_named-id.ensures, w.step.ensures) (asking_row c.loop-i.invariant c.loop-i-test.true (omega arith) (sym c.asks.ensures ∙ w.if-asks.true)) | else-asks w ↦ rw (w.out-is, w.at-is) (asking_other c.loop-i.invariant c.loop-i-test.true (omega arith) (sym c.asks.ensures ∙ w.if-asks.false)) ]

pub shape_of-out : goal.shape_of-out
shape_of-out c = asking_length c.loop-i.invariant

pub returns : goal.returns
returns c = asking_last c.loop-i.invariant c.loop-i-test.false
