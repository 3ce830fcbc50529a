use Rattle.file_type.proofs.BucketLemmas.{placed_put}
use Rattle.file_type.proofs.types.buckets_of.Goals as goal

pub loop-place-preserved : goal.loop-place-preserved
loop-place-preserved c =
    placed_put _ _ c.args.entries.now c.loop-place.place c.index-entries-place.result _ c.loop-place.invariant c.loop-place-test.true c.index-entries-place.is c.as_slice.ensures c.in_ok-put.ensures
