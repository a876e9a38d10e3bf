-- `node_types::tables::SchemaTables::shape` meets its contract: the two numbers past all types are those of the principal and the resource.
use native.Mathlib.Omega.{arith}
use Rattle.schema.specs.Items.{items_of}
use Rattle.node_types.specs.ShapeLaws.{shape_principal, shape_resource, shape_type}
use Rattle.node_types.proofs.tables.SchemaTables.shape.Goals as goal

pub returns-in-1025 : goal.returns-in-1025
returns-in-1025 c =
    let args = c.args in
    rw (
      shape_principal (items_of args.self.now.types.words.now) args.request args.number c.in-1025.is,
      ← c.from.ensures.0,
    )
    c.entity_shape.ensures

pub returns-in-1026 : goal.returns-in-1026
returns-in-1026 c =
    let args = c.args in
    rw (
      shape_resource (items_of args.self.now.types.words.now) args.request args.number c.in-1026.is,
      ← c.from-in-1026.ensures.2,
    )
    c.entity_shape-in-1026.ensures

pub returns-in_default : goal.returns-in_default
returns-in_default c =
    rw (shape_type (items_of c.args.self.now.types.words.now) c.args.request c.args.number c.requires (λ e. omega arith) (λ e. omega arith))
    c.type_shape.ensures
