pub mod RawLaws
pub mod Captures
pub mod Examples
