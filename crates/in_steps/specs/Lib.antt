-- What the step `in` leaves on the stack.
pub mod AncestorLaws
