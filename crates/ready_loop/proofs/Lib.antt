pub mod TurnLemmas
pub mod RestLemmas
pub mod LawProofs
pub mod ThroughLemmas
pub mod EndLemmas
