pub mod Flights
pub mod Continues
pub mod Opens
pub mod Writes
pub use Rattle.access_flow.specs as access_flow
pub use Rattle.subrequests.specs.family_nodes as family_nodes
pub use Rattle.access_flow.specs.node_turn as node_turn
pub use Rattle.page_response.specs as page_response
pub use Rattle.request_flow.specs.race_meaning as race_meaning
pub use Rattle.request_flow.specs as request_flow
pub use Rattle.request_flow.specs.request_opening as request_opening
pub use Rattle.subrequests.specs as subrequests
