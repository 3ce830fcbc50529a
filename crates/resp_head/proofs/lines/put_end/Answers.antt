use Rattle.resp_head.proofs.LineLemmas.{keep_line, close_line}
use Rattle.resp_head.proofs.lines.put_end.Goals as goal

pub returns-in_ok-extend : goal.returns-in_ok-extend
returns-in_ok-extend c = rw c.if-keep.true (keep_line c.args.out.now _ c.in_ok-extend.ensures.ok)

pub returns-in_ok-extend-2 : goal.returns-in_ok-extend-2
returns-in_ok-extend-2 c = rw c.if-keep.false (close_line c.args.out.now _ c.in_ok-extend-2.ensures.ok)
