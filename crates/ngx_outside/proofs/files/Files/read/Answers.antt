use Rattle.std.proofs.lemmas.Result.{err_from_is_err_and}
use Rattle.ngx_outside.proofs.Blocks.{block_added, block_refused}
use Rattle.ngx_outside.proofs.files.Files.read.Goals as goal

pub returns-in_err-extend-clause-answers : goal.returns-in_err-extend-clause-answers
returns-in_err-extend-clause-answers g c =
    let files = g.Self.Files in
    let block = (files.seen c.read_block.new.self).block in
    let p = err_from_is_err_and c.from_residual-in_err-extend.result c.from_residual-in_err-extend.ensures.1 in
    block_refused c.args.out.now c.extend.new.self block c.from_residual-in_err-extend.result (files.seen c.args.self.now).answers (files.seen c.read_block.new.self).answers p.0 p.1 c.in_ok-read_block.ensures.answers

pub returns-clause-answers : goal.returns-clause-answers
returns-clause-answers g c =
    let files = g.Self.Files in
    let block = (files.seen c.read_block.new.self).block in
    block_added c.args.out.now c.extend.new.self block (files.seen c.args.self.now).answers (files.seen c.read_block.new.self).answers
    (let e = c.in_ok-extend.ensures.ok in let b = c.block.ensures in cc) c.in_ok-read_block.ensures.answers
