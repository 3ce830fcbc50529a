pub mod PrintLaws
pub mod PrintedAddrs
pub mod PrintedEntries
pub mod PrintedScripts
