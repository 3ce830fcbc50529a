use Rattle.std.proofs.Common.{ap, ◌∙◌}
use Rattle.http_header.specs.HeaderMap.{get_all}
use Rattle.http_header.specs.Token.{lowercase}
use Rattle.req_head.proofs.NamedLemmas.{named_shown}
use Rattle.req_head.proofs.fields.HeadFields.values.Goals as goal

pub returns : goal.returns
returns c =
    c.new.ensures
    ∙ named_shown c.self.inside.text.items c.as_slice.result.now c.self.inside.spans.items c.as_slice-2.result.now (lowercase c.args.name.now)
    c.as_slice.ensures.value c.as_slice-2.ensures.value
    ∙ ap (λ m. get_all m (lowercase c.args.name.now)) c.self.view_is
