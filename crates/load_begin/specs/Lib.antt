pub mod Begins
pub mod BeginLaws
