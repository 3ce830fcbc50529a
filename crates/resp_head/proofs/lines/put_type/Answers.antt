use Rattle.resp_head.specs.Head.{crlf}
use Rattle.resp_head.proofs.LineLemmas.{type_line}
use Rattle.resp_head.proofs.lines.put_type.Goals as goal

pub returns : goal.returns
unfolding crlf
returns c = type_line c.args.out.now _ _ _ c.args.kind.now c.in_ok-extend.ensures.ok c.in_ok-put_value.ensures c.in_ok-put_crlf.ensures
