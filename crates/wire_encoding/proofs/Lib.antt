pub mod Result
pub mod Lists
pub mod BigEndian
pub mod Writes
pub mod Bits
pub mod Widths
