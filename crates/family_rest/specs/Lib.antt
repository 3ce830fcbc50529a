pub mod Still
pub mod Reached
pub mod Opened
pub mod Laws
pub use Rattle.family_order.specs as family_order
pub use Rattle.race_meaning.specs as race_meaning
