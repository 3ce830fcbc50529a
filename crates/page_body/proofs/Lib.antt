pub mod Acts
pub mod Alone
pub mod Bodies
pub mod Chains
pub mod Pages
pub mod Unfiltered
