-- Wrapped paths as words, and what a walk over them does.
pub mod Code
pub mod Turns
pub mod CodeLaws
pub mod AttrLaws
