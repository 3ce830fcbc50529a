pub mod ValueLemmas
pub mod LineLemmas
pub mod SafeLemmas
pub mod LawLemmas
pub mod Computed
