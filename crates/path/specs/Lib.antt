pub mod Standard
pub mod Segment
pub mod Dataplane
pub mod TimeLeft
