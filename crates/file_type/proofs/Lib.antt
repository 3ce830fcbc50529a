pub mod PathLemmas
pub mod BucketLemmas
