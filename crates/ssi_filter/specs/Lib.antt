pub mod Machine
pub mod Splits
pub use Rattle.ssi_text.specs as ssi_text
