pub mod Copy
pub mod Reverse
pub mod Destination
