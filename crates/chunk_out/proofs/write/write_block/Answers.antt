use Rattle.chunk_out.proofs.BlockLemmas.{block_text}
use Rattle.chunk_out.proofs.write.write_block.Goals as goal

pub returns-clause-items : goal.returns-clause-items
returns-clause-items c = block_text c.args.out.now.items c.args.front.now c.args.back.now _ _ _ _ c.append.ensures.items c.append-2.ensures.items c.append-3.ensures.items c.append-4.ensures.items c.requires.whole
