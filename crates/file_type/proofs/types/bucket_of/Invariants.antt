use Rattle.std.proofs.Common.{◌≡◌, drop, map}
use Rattle.std.specs.Char.{to_ascii_lowercase}
use Rattle.file_type.specs.Buckets.{hash_after}
use Rattle.file_type.proofs.types.bucket_of.Given as goal

-- the hash so far and the bytes left give the hash of all
abbrev pub invariant-loop-byte : goal.invariant-loop-byte
invariant-loop-byte l = hash_after l.hash (map to_ascii_lowercase (drop l.byte-index l.extension)) ≡ hash_after 0 (map to_ascii_lowercase l.fn.extension)
