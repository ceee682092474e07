pub mod MetaHeader
pub mod Encoding
pub mod EncodingRead
pub mod Reversal
pub mod Segment
