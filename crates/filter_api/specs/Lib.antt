pub mod Members
pub mod Chains
pub mod Laws
pub use Rattle.ssi_text.specs as ssi_text
