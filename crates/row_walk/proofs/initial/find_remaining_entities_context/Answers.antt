-- `row_walk::initial::find_remaining_entities_context` meets its contract: what the context root's children meet.
use Rattle.values.specs.ValueWords.{value_rows_of}
use Rattle.row_walk.proofs.initial.find_remaining_entities_context.Goals as goal

pub find_remaining_entities-requires : goal.find_remaining_entities-requires
find_remaining_entities-requires c =
    record { nodes_len_bound = c.requires.nodes_len_bound; values_in_bounds = rw (← c.context_root-root.ensures.meets (value_rows_of c.args.context.now)) c.requires.nodes_in_bounds }

pub shape_of-out : goal.shape_of-out
shape_of-out c = c.find_remaining_entities.auto.out

pub returns : goal.returns
returns c =
    rw (c.context_root-root.ensures.meets (value_rows_of c.args.context.now)) c.find_remaining_entities.ensures
