use Rattle.std.proofs.Common.{codes}
use Rattle.http_header.specs.HeaderMap.{get_all}
use Rattle.req_head.proofs.MadeLemmas.{keeps-known}
use Rattle.req_head.proofs.rules.keeps.Goals as goal

pub returns : goal.returns
returns c = λ fields known.
    keeps-known c.args.minor (get_all fields (codes "connection")) (get_all fields (codes "expect")) c.args.known.continues c.args.known.closes c.args.known.keeps_alive c.persists.result
    known.continues known.closes known.keeps_alive c.persists.ensures
