pub mod Admitted
pub mod Located
pub mod Nexts
pub mod Programs
pub mod Rounds
pub mod Turns
pub mod Verdicts
pub use Rattle.ngx_variables.specs as ngx_variables
pub use Rattle.location_search.specs.pattern_search as pattern_search
pub use Rattle.request_meaning.specs as request_meaning
pub use Rattle.rewrite_code.specs as rewrite_code
pub use Rattle.site_model.specs as site_model
pub use Rattle.try_index.specs.site_whole as site_whole
