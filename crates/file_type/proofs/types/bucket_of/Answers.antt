use Rattle.std.proofs.Common.{◌+◌, ◌*◌, ◌%◌, drop, map, sym, ap, ◌∙◌}
use Rattle.std.specs.Char.{to_ascii_lowercase}
use Rattle.std.proofs.lemmas.List.{drop_more, drop_all}
use Rattle.file_type.specs.Buckets.{hash_after, bucket_of}
use Rattle.file_type.proofs.types.bucket_of.Goals as goal

pub loop-byte-preserved : goal.loop-byte-preserved
unfolding hash_after
loop-byte-preserved c =
    let xs = c.args.extension.now in
    let i = c.loop-byte.byte-index in
    let hash = c.loop-byte.hash in
    ap (λ b. hash_after ((hash * 31 % 4294967296 + b) % 4294967296) (map to_ascii_lowercase (drop (i + 1) xs))) c.to_ascii_lowercase.ensures.value
    ∙ sym (ap (λ t. hash_after hash (map to_ascii_lowercase t)) (drop_more xs i 0 c.loop-byte-test.true))
    ∙ c.loop-byte.invariant

pub returns-clause-value : goal.returns-clause-value
unfolding hash_after bucket_of
returns-clause-value c =
    let xs = c.args.extension.now in
    let i = c.loop-byte.byte-index in
    let hash = c.loop-byte.hash in
    ap (λ h. h % c.args.count) (sym (ap (λ t. hash_after hash (map to_ascii_lowercase t)) (drop_all i xs c.loop-byte-test.false)) ∙ c.loop-byte.invariant)
