pub mod Stances
pub mod Stubs
pub use Rattle.family_rest.specs as family_rest
pub use Rattle.node_turn.specs as node_turn
pub use Rattle.node_turn.specs.page_body as page_body
pub use Rattle.family_meaning.specs.request_meaning as request_meaning
pub use Rattle.node_turn.specs.request_phases as request_phases
pub use Rattle.node_turn.specs.rewrite_code as rewrite_code
pub use Rattle.node_turn.specs.ssi_exec as ssi_exec
