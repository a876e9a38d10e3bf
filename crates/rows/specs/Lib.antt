-- What a packed row and a lent state mean, and what the operations of `rows` answer, in the words of `rules`.
pub mod Words
pub mod Sizes
pub mod States
pub mod WordLaws
pub mod CountLaws
pub mod StateLaws
pub mod LentLaws
