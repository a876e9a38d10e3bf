-- What the answers of `text` mean, in the words of `rules`.
pub mod Answers
pub mod Before
