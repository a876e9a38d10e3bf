-- What typing looks up in a schema's words, and what becomes of a node.
pub mod FateLaws
pub mod Named
pub mod NamedLaws
pub mod PlacesLaws
pub mod ShapeLaws
pub mod Shapes
