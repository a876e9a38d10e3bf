-- What the C names of the front answer.
pub mod Numbers
pub mod LoadNumbers
