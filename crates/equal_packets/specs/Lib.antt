pub mod EqualPackets
pub mod OverC
pub mod AcceptedExactly
pub mod Examples
