pub mod Puts
pub mod Kept
pub use Rattle.answers_meaning.specs as answers_meaning
pub use Rattle.request_reply.specs.pattern_search as pattern_search
pub use Rattle.request_opening.specs as request_opening
pub use Rattle.request_reply.specs.request_phases as request_phases
pub use Rattle.request_reply.specs as request_reply
pub use Rattle.request_reply.specs.rewrite_code as rewrite_code
pub use Rattle.request_opening.specs.site_whole as site_whole
