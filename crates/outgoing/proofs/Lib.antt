pub mod ChunkLengths
pub mod PutLemmas
