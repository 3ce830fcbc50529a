pub mod Facts
pub mod Rests
pub mod Steps
pub mod Conn
pub mod Times
pub mod Wants
pub mod Tails
pub mod Reads
pub use Rattle.response_flow.specs.access_flow as access_flow
pub use Rattle.answers_meaning.specs as answers_meaning
pub use Rattle.response_flow.specs.family_nodes as family_nodes
pub use Rattle.response_flow.specs.node_turn as node_turn
pub use Rattle.response_flow.specs.race_meaning as race_meaning
pub use Rattle.response_flow.specs.request_flow as request_flow
pub use Rattle.response_flow.specs.request_opening as request_opening
pub use Rattle.response_flow.specs as response_flow
pub use Rattle.served_site.specs as served_site
pub use Rattle.response_flow.specs.subrequests as subrequests
