pub mod Copy
pub mod Examples
pub mod Reverse
pub mod Reversed
pub mod Twice
pub mod Expiry
pub mod Calls
pub mod Destination
