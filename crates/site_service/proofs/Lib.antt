pub mod EndsLaws
pub mod Becoming
