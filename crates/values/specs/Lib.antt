pub mod ValueWords
pub mod ValueWordLaws
pub mod Lawful
pub mod LawfulLaws
