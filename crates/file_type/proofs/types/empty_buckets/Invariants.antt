use Rattle.std.proofs.Common.{◌≡◌, [], replicate}
use Rattle.file_type.proofs.types.empty_buckets.Given as goal

abbrev pub invariant-loop-made : goal.invariant-loop-made
invariant-loop-made l = l.buckets.items ≡ replicate l._made []
