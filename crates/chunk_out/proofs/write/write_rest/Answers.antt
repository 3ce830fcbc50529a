use Rattle.std.proofs.Common.{refl}
use Rattle.chunk_out.proofs.BlockLemmas.{rest_text}
use Rattle.chunk_out.proofs.write.write_rest.Goals as goal

pub returns-clause-items : goal.returns-clause-items
returns-clause-items c = rest_text c.args.out.now.items c.args.rest.now _ _ _ _ _ c.write_size.ensures.items c.append.ensures.items c.append-2.ensures.items c.append-3.ensures.items refl
