-- What the steps that wrap results leave on the stack.
pub mod WrapLaws
