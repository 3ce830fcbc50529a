use Rattle.file_type.proofs.BucketLemmas.{Placed}
use Rattle.file_type.proofs.types.buckets_of.Given as goal

abbrev pub invariant-loop-place : goal.invariant-loop-place
invariant-loop-place l = Placed l.buckets.items l.entries l.place
