pub mod Nodes
pub mod Stages
pub mod Turns
pub mod Served
pub mod Taken
pub mod Said
pub use Rattle.page_body.specs as page_body
pub use Rattle.request_reply.specs.request_phases as request_phases
pub use Rattle.request_reply.specs as request_reply
pub use Rattle.request_reply.specs.rewrite_code as rewrite_code
pub use Rattle.page_body.specs.site_model as site_model
pub use Rattle.page_body.specs.ssi_exec as ssi_exec
