pub mod Openings
pub use Rattle.site_whole.specs as site_whole
