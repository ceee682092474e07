pub mod RoundTrip
pub mod Mirror
pub mod Reply
pub mod Examples
