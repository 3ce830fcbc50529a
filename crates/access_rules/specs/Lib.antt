pub mod Rule
pub mod Text
