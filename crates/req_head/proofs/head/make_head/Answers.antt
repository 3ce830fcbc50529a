use Rattle.std.proofs.Common.{codes}
use Rattle.http_header.specs.HeaderMap.{get_all}
use Rattle.req_head.proofs.CodeLemmas.{passes_length}
use Rattle.req_head.proofs.MadeLemmas.{made}
use Rattle.req_head.proofs.head.make_head.Goals as goal

pub body_of-requires : goal.body_of-requires
body_of-requires c = (c.args.fields, c.requires.known, passes_length c.args.minor c.args.target.now c.args.fields c.requires.passes)

pub returns : goal.returns
returns c =
    let fields = c.args.fields in
    let known = c.requires.known in
    made c.args.method.now c.args.target.now c.in_ok-host.host c.args.minor fields c.in_ok-method_of.field-0 c.version_of.result c.in_ok-target.field-0 c.body_of.result c.keeps.result
    c.in_ok-method_of.ensures c.version_of.ensures c.in_ok-target.ensures (c.in_ok-host.ensures (get_all fields (codes "host")) known.host) (c.body_of.ensures fields known) (c.keeps.ensures fields known)
