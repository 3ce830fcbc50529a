pub mod Answering
pub mod Endings
pub mod NamingLaws
pub mod CountLaws
mod RaceLines
