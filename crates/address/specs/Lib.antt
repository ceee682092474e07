pub mod Ia
pub mod Service
pub mod Host
pub mod ScionAddress
