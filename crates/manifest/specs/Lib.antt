-- What the operations of `manifest` answer and leave, in the words of `rules`.
pub mod Outcomes
pub mod UniteLaws
