-- What calls one after the other leave and report, as definitions; proofs/ says what follows.
pub mod Calls
pub mod LoadsIn
pub mod SchemaReadLaws
