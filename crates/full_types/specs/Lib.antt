-- Which path takes which type.
pub mod Pairs
pub mod FullLaws
pub mod Required
pub mod RequiredLaws
