-- What typing answers and leaves.
pub mod Outcomes
pub mod TypedLaws
