pub mod EitherEnd
pub mod RunExamples
pub mod RunParts
pub mod Examples
pub mod PathRuns
