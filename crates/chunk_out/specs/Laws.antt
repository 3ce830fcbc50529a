-- Laws of the chunked coding.
use Rattle.std.specs.Prelude.{◌≡◌, ℕ, ◌+◌, ◌≤◌, List, ◌++◌, length}
use Rattle.http_types.specs.declared.words.BodyKind.TheVariants.{Chunked}
use Rattle.body_frame.specs.Outcome.{Whole}
use Rattle.body_frame.specs.Grammar.{ChunkedBody, IsChunkedBody, print_body, content}
use Rattle.body_frame.specs.State.{body_of}
use Rattle.httparse.specs.Grammar.{ChunkLine, IsChunkLine, print_chunk_line, chunk_size}
use Rattle.chunk_out.specs.Chunks.{hex, line_end, framed}
use Rattle.chunk_out.specs.State.{Feeds}

-- the text is a chunked body that carries the bytes, and its end is found whatever follows
pub record Carries (bytes text : List ℕ) : Type 0 where
  pub body : ChunkedBody
  pub well_formed : IsChunkedBody body
  pub spelled : text ≡ print_body body
  pub carried : content body ≡ bytes
  pub found : (more : List ℕ) → body_of Chunked (text ++ more) ≡ Whole (length text)

-- the chunks of each body carry it
abbrev pub ChunksAreABody : Type 0
ChunksAreABody = (bytes : List ℕ) → Carries bytes (framed bytes)

-- two feeds are one
abbrev pub FeedsCompose : Type 0
FeedsCompose =
    (old middle new first second before between after : List ℕ) (n : ℕ)
    → Feeds old first (length first) middle before between → Feeds middle second n new between after
    → Feeds old (first ++ second) (length first + n) new before after

-- a size up to 4096 and a line end are a chunk's line with that size
abbrev pub SizesAreChunkLines : Type 0
SizesAreChunkLines = (size : ℕ) → size ≤ 4096 → (line : ChunkLine) × IsChunkLine line × (print_chunk_line line ≡ hex size ++ line_end) × (chunk_size line ≡ size)
