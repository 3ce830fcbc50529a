pub mod Searches
pub use Rattle.site_whole.specs as site_whole
pub use Rattle.target_text.specs as target_text
