pub mod Run
pub mod Reads
pub mod PathRuns
