pub mod AddressLaws
pub mod NumberLaws
