use Rattle.chunk_out.proofs.BodyLemmas.{carries}
use Rattle.chunk_out.proofs.laws.chunks_are_a_body.Goals as goal

pub returns : goal.returns
returns c = carries c.bodies_are_the_grammars.ensures
