use Rattle.ngx_outside.proofs.Blocks.{block_added}
use Rattle.ngx_outside.proofs.files.Files.read_to.Goals as goal

pub returns-clause-told : goal.returns-clause-told
returns-clause-told g c =
    let files = g.Self.Files in
    let block = (files.seen c.read_block.new.self).block in
    block_added c.args.out.now c.append.new.self block (files.seen c.args.self.now).answers (files.seen c.read_block.new.self).answers
    (let e = c.in_ok-append.ensures.ok in let b = c.block.ensures in cc) c.in_ok-read_block.ensures.answers
