pub mod Settled
pub use Rattle.file_path.specs as file_path
pub use Rattle.ngx_variables.specs as ngx_variables
pub use Rattle.request_meaning.specs as request_meaning
