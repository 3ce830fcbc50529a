use Rattle.std.proofs.Common.{refl, sym, ap, ◌∙◌}
use Rattle.request_meaning.specs.Laws.{shipped}
use Rattle.reply_out.specs.rewrite_code.Places.{standing_seen}
use Rattle.reply_out.specs.request_phases.Rounds.{world_in, asked_in, prepared_as}
use Rattle.request_flow.specs.declared.page.PageHead.{PageHead}
use Rattle.request_flow.specs.Terms.{terms_seen}
use Rattle.request_flow.specs.Sents.{known_bytes, known_tree}
use Rattle.request_flow.proofs.Puts.{reply_is, same_outcome, values_are}
use Rattle.request_flow.proofs.Composing as composing
use Rattle.request_flow.proofs.page.compose.Goals as goal

pub returns-clause-goes : goal.returns-clause-goes
returns-clause-goes c = λ patterns trees out.
    let g = c.args.ground.now in
    let site = g.site.now in
    let w = world_in patterns g shipped in
    let request = c.args.request.now in
    let p = request.phases in
    let a = asked_in p in
    let s = standing_seen site p.at in
    let known = c.args.known in
    let tree = trees (known_tree known) in
    let bytes = known_bytes known trees in
    let t = request.terms in
    let reply = c.in_ok-reply.reply in
    let told = c.with_length-outcome.result in
    let made = prepared_as w a s bytes c.args.outcome in
    let page : PageHead = record { outcome = told; known = known; head = c.in_ok-head.head; chunked = c.is_chunked-chunked.result; status = reply.status } in
    let is = reply_is patterns g p known trees c.length_in.result c.args.outcome c.in_ok-copy.copy reply c.length_in.ensures (c.in_ok-copy.ensures ∙ c.with_length-outcome.ensures) c.in_ok-reply.ensures in
    composing.composed site w tree (terms_seen t) made (prepared_as w a s bytes told) request.vars page out c.args.closing c.closes.result p.at.level
    (ap (prepared_as w a s bytes) c.with_length-outcome.ensures ∙ same_outcome w a s bytes c.length_in.result c.args.outcome)
    (composing.page_follows site p.at.level t c.level-level.result.now reply bytes made is (composing.came_of w tree made request.vars) (composing.subs_of w tree made request.vars) page
    (composing.ends_as w tree made request.vars) c.level-level.ensures (values_are w a s bytes c.args.outcome) (sym c.is_sent.ensures ∙ c.if-not-is_sent.false)
    c.args.closing c.closes.result c.stays-keep.result c.stays-keep.ensures c.closes.ensures c.in_ok-head.ensures.head c.is_chunked-chunked.ensures refl out)
