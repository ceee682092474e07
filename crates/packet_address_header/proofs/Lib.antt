pub mod AddressHeaderLaws
