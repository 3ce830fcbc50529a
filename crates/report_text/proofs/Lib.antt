pub mod EscapeLaws
pub mod LineLaws
pub mod PlaceLaws
pub mod SentLaws
