-- `node_types::tables::SchemaTables::typed_fate` meets its contract: by what the type says of fields.
use Rattle.rules.specs.Typing.{of_shape}
use Rattle.node_types.specs.FateLaws.{given_stays}
use Rattle.node_types.proofs.tables.SchemaTables.typed_fate.Goals as goal

pub returns-then-children : goal.returns-then-children
returns-then-children c = rw (rw c.in-Leaf.is at c.shape.ensures, c.if-children.true)

pub returns-in-Known : goal.returns-in-Known
returns-in-Known c =
    given_stays c.requires.0 c.requires.1 (rw (of_shape, (rw c.in-Known.is at c.shape.ensures).those))

pub returns-else-children : goal.returns-else-children
returns-else-children c =
    given_stays c.requires.0 c.requires.1 (rw (of_shape, rw c.in-Leaf.is at c.shape.ensures, c.if-children.false))

pub returns-in-NotStrict : goal.returns-in-NotStrict
returns-in-NotStrict c = rw (of_shape, rw c.in-NotStrict.is at c.shape.ensures)
