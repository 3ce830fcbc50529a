-- Entries by a hash of their extension.
use Rattle.std.specs.Prelude.{◌≡◌, ℕ, ◌+◌, ◌*◌, ◌%◌, ◌^◌, ◌<◌, List, [], ◌∷◌, ◌++◌, length, map, All, slice_index_or}
use Rattle.std.specs.Char.{to_ascii_lowercase}
use Rattle.file_type.specs.Types.{type_among}
use Rattle.file_type.specs.declared.types.TypeEntry.{TypeEntry}

-- a hash of bytes, without regard to ASCII case
unfoldable pub hash_after : ℕ → List ℕ → ℕ
hash_after hash [] = hash
hash_after hash (byte ∷ bytes) = hash_after ((hash * 31 % 2 ^ 32 + byte) % 2 ^ 32) bytes

-- the bucket of an extension, of `count` buckets
unfoldable pub bucket_of : List ℕ → ℕ → ℕ
bucket_of extension count = hash_after 0 (map to_ascii_lowercase extension) % count

-- no entry
abbrev pub no_entry : TypeEntry
no_entry = record { extension = []; media_type = [] }

-- the entries at some places
abbrev pub entries_at : List ℕ → List TypeEntry → List TypeEntry
entries_at places entries = map (λ place. slice_index_or entries place no_entry) places

-- Each place in a bucket is an entry's, and a look-up in the bucket of an extension finds what one in all entries finds.
pub record AreBuckets (buckets : List (List ℕ)) (entries : List TypeEntry) : Type 0 where
  pub some : 0 < length buckets
  pub places : (k : ℕ) → k < length buckets → All (λ place. place < length entries) (slice_index_or buckets k [])
  pub finds : (before wanted : List ℕ) → type_among before (entries_at (slice_index_or buckets (bucket_of wanted (length buckets)) []) entries) wanted ≡ type_among before entries wanted

-- the place is at the end of the bucket of the extension, and the other buckets are the same
pub record Puts (old new : List (List ℕ)) (extension : List ℕ) (place : ℕ) : Type 0 where
  pub same_count : length new ≡ length old
  pub put : slice_index_or new (bucket_of extension (length old)) [] ≡ slice_index_or old (bucket_of extension (length old)) [] ++ place ∷ []
  pub others : (k : ℕ) → ¬ (k ≡ bucket_of extension (length old)) → slice_index_or new k [] ≡ slice_index_or old k []
