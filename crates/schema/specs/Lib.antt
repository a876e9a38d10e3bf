-- What a schema's words mean, and which lines may come after one another.
pub mod Bounds
pub mod ItemLaws
pub mod Items
pub mod KnownLaws
