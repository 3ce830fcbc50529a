pub mod SizeLemmas
pub mod BlockLemmas
pub mod FeedLemmas
pub mod BodyLemmas
