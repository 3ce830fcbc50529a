pub mod Whole
pub use Rattle.site_model.specs as site_model
pub use Rattle.site_views.specs as site_views
