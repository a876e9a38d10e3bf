-- What the step that adds a field leaves on the stack.
pub mod AttrStepLaws
