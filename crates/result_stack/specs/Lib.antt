-- The stack of results in words.
pub mod Stacks
pub mod StackLaws
pub mod JudgingLaws
