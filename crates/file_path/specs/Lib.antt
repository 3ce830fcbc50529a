pub mod Located
pub mod Acts
pub mod Laws
pub use Rattle.ngx_variables.specs as ngx_variables
