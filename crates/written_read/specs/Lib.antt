pub mod WrittenRead
pub mod OverC
pub mod Examples
