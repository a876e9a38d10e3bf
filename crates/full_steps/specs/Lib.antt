-- What the step `full` leaves on the stack.
pub mod FullStepLaws
