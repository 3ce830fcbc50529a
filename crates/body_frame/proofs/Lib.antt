pub mod RunLemmas
pub mod StateLemmas
pub mod LawLemmas
pub mod GrammarComplete
pub mod GrammarSound
pub mod GrammarLaw
