pub mod MetaHeader
pub mod Encoding
pub mod Reversal
