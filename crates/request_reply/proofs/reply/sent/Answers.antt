use Rattle.std.proofs.Common.{refl, ◌∙◌, ap, cond, None, Some}
use Rattle.file_type.specs.Types.{type_of}
use Rattle.request_phases.specs.site_model.Levels.{types_at}
use Rattle.request_reply.proofs.Sents as sents
use Rattle.request_reply.proofs.reply.sent.Goals as goal

pub returns : goal.returns
returns c = λ w bytes content members b l v.
    let site = c.args.site.now in
    let p = c.args.phases.now in
    let kind = c.type_of-kind.ensures ∙ (ap (type_of c.types.result.now) c.as_slice-path.ensures ∙ ap (λ ts. type_of ts p.at.request.path) (c.types.ensures ∙ (ap (λ l. types_at site l.types) c.level.ensures ∙ sents.types_are site p))) in
    sents.sent_all w site p c.args.own c.args.date bytes content members _ c.args.body c.args.len c.type_of-kind.result.now c.shown_status-shown.result c.status_of-status.result c.facts_if-facts.result c.is_some-filtered.result
    c.is_bodiless-bodiless.result c.sends_nothing-nothing.result b l v kind c.shown_status-shown.ensures c.facts_if-facts.ensures c.is_some-filtered.ensures c.status_of-status.ensures c.is_bodiless-bodiless.ensures
    c.sends_nothing-nothing.ensures refl c.kind_unless.ensures (c.length_unless.ensures ∙ ap (λ d. cond d None (Some c.args.len)) c.is_untold.ensures) c.is_known.ensures c.shown_date.ensures refl refl refl
    (c.read_unless.ensures content l) c.facts_unless.ensures c.body_unless.ensures
