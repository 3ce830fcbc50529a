use Rattle.std.proofs.Common.{arith}
use Rattle.file_type.proofs.BucketLemmas.{bucket_places}
use Rattle.file_type.proofs.types.Table.find.Goals as goal

pub type_among-requires : goal.type_among-requires
type_among-requires c =
    bucket_places c.self.inside.buckets.items c.self.inside.entries.items _ c.bucket_of-bucket.result _ _ c.self.invariant (omega arith) c.index.ensures c.as_slice-2.ensures c.as_slice.ensures.value
