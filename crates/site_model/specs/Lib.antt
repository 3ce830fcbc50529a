pub mod Levels
pub mod Listens
pub use Rattle.ngx_variables.specs as ngx_variables
