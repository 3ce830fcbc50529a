pub mod Machine
pub mod Surrounds
pub use Rattle.filter_api.specs as filter_api
