pub mod Outcome
pub mod Grammar
pub mod Position
pub mod State
pub mod Laws
