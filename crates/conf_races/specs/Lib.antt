pub mod Origins
pub mod Races
pub mod Runs
pub use Rattle.race_places.specs as race_places
