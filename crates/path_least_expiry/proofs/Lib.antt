pub mod Least
pub mod Segments
pub mod Kept
pub mod There
