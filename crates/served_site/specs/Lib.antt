pub mod Each
pub mod Served
pub mod Facts
pub use Rattle.request_phases.specs as request_phases
