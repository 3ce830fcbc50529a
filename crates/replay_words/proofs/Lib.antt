pub mod LineLaws
pub mod EscapeLaws
pub mod TermLaws
pub mod SumLaws
