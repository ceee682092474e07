pub mod Result
pub mod BigEndian
pub mod Answers
pub mod Bounded
pub mod Bits
