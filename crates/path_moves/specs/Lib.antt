pub mod Rules
pub mod Moves
pub mod Examples
