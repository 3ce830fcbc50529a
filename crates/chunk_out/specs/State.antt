-- What a call of `feed` does.
use Rattle.std.specs.Prelude.{◌≡◌, ℕ, List, ◌++◌, drop}
use Rattle.chunk_out.specs.Chunks.{framed}

-- Bytes were added to the output, and they with the chunks of what waits now and what is left of the bytes, and of any
-- more, are the chunks of what waited, the bytes and any more.
pub record Feeds (old bytes : List ℕ) (count : ℕ) (new before after : List ℕ) : Type 0 where
  pub written : List ℕ
  pub adds : after ≡ before ++ written
  pub rest : (more : List ℕ) → framed (old ++ (bytes ++ more)) ≡ written ++ framed (new ++ (drop count bytes ++ more))
