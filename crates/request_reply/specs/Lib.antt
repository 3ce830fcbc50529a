pub mod Replies
pub use Rattle.request_phases.specs.pattern_search as pattern_search
pub use Rattle.request_meaning.specs as request_meaning
pub use Rattle.request_phases.specs as request_phases
pub use Rattle.request_phases.specs.rewrite_code as rewrite_code
