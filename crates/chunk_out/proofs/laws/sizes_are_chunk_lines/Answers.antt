use Rattle.chunk_out.proofs.BodyLemmas.{chunk_lines}
use Rattle.chunk_out.proofs.laws.sizes_are_chunk_lines.Goals as goal

pub returns : goal.returns
returns c = chunk_lines
