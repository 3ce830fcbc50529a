pub mod Families
pub mod Moved
pub mod Wants
pub mod Ran
pub use Rattle.family_nodes.specs as family_nodes
pub use Rattle.family_order.specs as family_order
pub use Rattle.node_line.specs.family_rest as family_rest
pub use Rattle.node_seats.specs as node_seats
pub use Rattle.node_line.specs.request_phases as request_phases
