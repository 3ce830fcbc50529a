pub mod Found
pub use Rattle.site_whole.specs.site_model as site_model
pub use Rattle.site_views.specs as site_views
pub use Rattle.site_whole.specs as site_whole
