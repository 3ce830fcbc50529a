use Rattle.request_reply.proofs.Sents as sents
use Rattle.request_reply.proofs.filters.told.Goals as goal

pub returns : goal.returns
returns c =
    sents.told_is c.args.site.now c.args.phases.now c.args.level.now c.args.status c.args.kind.now c.requires c.is_among.result c.is_some.result c.is_some-2.result c.is_among-2.result c.is_main.result
    c.is_among.ensures c.is_some.ensures c.is_some-2.ensures c.is_among-2.ensures c.is_main.ensures
