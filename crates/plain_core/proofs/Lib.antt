pub mod LineLaws
pub mod ConnLaws
pub mod HeldLaws
