pub mod Rules
pub mod Moves
pub mod Fields
pub mod Walks
pub mod Sums
pub mod Expiry
pub mod Accumulators
pub mod Examples
