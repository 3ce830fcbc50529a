pub mod Lists
pub mod Nodes
pub mod Building
pub mod Found
pub mod Names
pub mod Served
pub use Rattle.pattern_search.specs as pattern_search
