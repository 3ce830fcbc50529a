pub mod Items
pub mod Acts
pub mod Laws
pub mod Whole
pub use Rattle.family_meaning.specs as family_meaning
pub use Rattle.race_meaning.specs as race_meaning
