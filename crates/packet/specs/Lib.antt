pub mod Raw
pub mod Captures
pub mod Examples
