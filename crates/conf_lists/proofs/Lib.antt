pub mod HostLaws
pub mod WordLaws
