pub mod Serving
pub mod Cuts
pub mod Rewriting
pub mod Answering
pub mod Errors
pub mod Access
pub mod Contents
pub mod Phases
pub mod Documents
pub mod Commands
pub mod Bodies
pub mod Replies
pub mod Counts
pub mod Responses
pub mod Laws
pub use Rattle.addition_filter.specs as addition_filter
pub use Rattle.error_page.specs as error_page
pub use Rattle.file_path.specs as file_path
pub use Rattle.addition_filter.specs.filter_api as filter_api
pub use Rattle.file_path.specs.ngx_variables as ngx_variables
pub use Rattle.site_views.specs as site_views
pub use Rattle.ssi_filter.specs as ssi_filter
pub use Rattle.ssi_filter.specs.ssi_text as ssi_text
pub use Rattle.static_content.specs as static_content
