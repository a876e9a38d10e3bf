-- The table of types.
pub mod NamedLaws
pub mod Tables
pub mod TypeTableLaws
