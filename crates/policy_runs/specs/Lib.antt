-- What a policy text's lines and a run over them answer and leave.
pub mod PolicyRuns
pub mod PolicyRunLaws
