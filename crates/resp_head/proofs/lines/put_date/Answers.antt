use Rattle.resp_head.specs.Head.{crlf}
use Rattle.resp_head.proofs.LineLemmas.{start_lines}
use Rattle.resp_head.proofs.lines.put_date.Goals as goal

pub returns : goal.returns
unfolding crlf
returns c = start_lines c.args.out.now _ _ _ c.args.date.now c.in_ok-extend.ensures.ok c.in_ok-extend-2.ensures.ok c.in_ok-put_crlf.ensures
