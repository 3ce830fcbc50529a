pub mod Reading
pub mod Stages
pub mod Pages
pub use Rattle.family_meaning.specs as family_meaning
pub use Rattle.ngx_variables.specs as ngx_variables
pub use Rattle.ssi_exec.specs.site_model as site_model
pub use Rattle.ssi_exec.specs.site_whole as site_whole
pub use Rattle.ssi_exec.specs as ssi_exec
