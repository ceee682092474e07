pub mod AddressHeader
