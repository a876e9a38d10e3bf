-- What calls one after the other promise. No code: each operation's promise is said in its own crate, and Demand3InCalls and TripsInCalls say what follows.
pub mod StoringLaws
pub mod BuildsInLaws
pub mod SchemaReadLaws
pub mod HandedLaws
pub mod JobLaws
pub mod PoliciesInLaws
pub mod Demand3InCalls
pub mod TripsInLaws
pub mod TripsInCalls
