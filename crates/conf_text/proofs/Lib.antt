pub mod PlaceLaws
pub mod WordLaws
pub mod TokenLaws
pub mod StatementLaws
pub mod StepLaws
pub mod PrintLaws
