pub mod Naming
pub mod Running
pub mod Sites
pub mod Commands
pub mod Checks
pub use Rattle.conf_races.specs as conf_races
pub use Rattle.site_service.specs.request_flow as request_flow
