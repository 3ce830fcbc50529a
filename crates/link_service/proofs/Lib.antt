pub mod EventLemmas
pub mod BlockLemmas
pub mod AccountLemmas
pub mod KeptLemmas
pub mod JobLemmas
pub mod WantLemmas
pub mod BesideLemmas
pub mod NodeLemmas
