pub mod Answer
pub mod Paths
