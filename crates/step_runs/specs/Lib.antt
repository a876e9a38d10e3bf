-- What a step line and a run over step lines answer and leave.
pub mod ContributionLaws
pub mod StepRuns
pub mod StepRunLaws
