pub mod Scenes
pub mod Named
pub mod Stages
pub mod Includes
pub use Rattle.site_whole.specs.site_model as site_model
pub use Rattle.site_whole.specs as site_whole
