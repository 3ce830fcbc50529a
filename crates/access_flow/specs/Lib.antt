pub mod Flows
pub mod Reached
pub use Rattle.node_turn.specs as node_turn
