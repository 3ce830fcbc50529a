use Rattle.std.proofs.Common.{sym, ◌∙◌}
use Rattle.request_reply.proofs.Sents as sents
use Rattle.request_reply.proofs.filters.facts_if.Goals as goal

pub returns-then-not-names_filters : goal.returns-then-not-names_filters
returns-then-not-names_filters c =
    sents.unnamed c.args.site.now c.args.phases.now c.level-level.result.now c.args.status c.args.kind.now c.level-level.ensures (sym c.names_filters.ensures ∙ c.if-not-names_filters.true)
