use Rattle.std.proofs.Common.{◌++◌, refl, sym, ap, ◌∙◌}
use Rattle.acts.specs.Act.{Done, Write, settled}
use Rattle.error_page.specs.Page.{page_of}
use Rattle.file_tree.specs.Tree.{known_text}
use Rattle.request_reply.specs.request_meaning.Laws.{shipped}
use Rattle.request_reply.specs.rewrite_code.Places.{standing_seen}
use Rattle.request_reply.specs.request_phases.Rounds.{asked_in, prepared_as, world_in}
use Rattle.request_reply.specs.Replies.{sent_as}
use Rattle.node_turn.specs.Nodes.{answer_seen, body_then, bytes_for}
use Rattle.node_turn.proofs.Phased as phased
use Rattle.node_turn.proofs.Turning.{at_once, turns_by}
use Rattle.node_turn.proofs.phase.answering.Goals as goal

pub returns-in_ok-bare-in-Nothing-clause-acts : goal.returns-in_ok-bare-in-Nothing-clause-acts
returns-in_ok-bare-in-Nothing-clause-acts c = λ patterns path text vars.
    let g = c.args.ground.now in
    let site = g.site.now in
    let p = c.args.phases.now in
    let w = world_in patterns g shipped in
    let o = c.args.outcome in
    let there = known_text c.args.known text in
    let bytes = bytes_for o there in
    let made = prepared_as w (asked_in p) (standing_seen site p.at) bytes o in
    let parts = c.apart-answered.ensures site p bytes made (phased.is_for w site p bytes o) (phased.reply_so w site p there c.in_ok-reply.reply o c.args.outcome refl refl c.in_ok-reply.ensures) in
    at_once (phased.answers_so w c.args.left c.args.ssi made (answer_seen site p c.apart-answered.result.answered) bytes c.apart-answered.result.facts c.apart-answered.result.body _ vars parts.0 parts.1 c.in-Nothing.is
    ∙ (phased.bare_so w c.args.left c.args.ssi (answer_seen site p c.apart-answered.result.answered) vars
    ∙ ap (λ m. (m, vars)) (sym (c.in_ok-bare-in-Nothing.ensures.acts g p c.args.left patterns path text))))

pub returns-in_ok-plain-in-Page-clause-acts : goal.returns-in_ok-plain-in-Page-clause-acts
returns-in_ok-plain-in-Page-clause-acts c = λ patterns path text vars.
    let g = c.args.ground.now in
    let site = g.site.now in
    let p = c.args.phases.now in
    let w = world_in patterns g shipped in
    let o = c.args.outcome in
    let there = known_text c.args.known text in
    let bytes = bytes_for o there in
    let made = prepared_as w (asked_in p) (standing_seen site p.at) bytes o in
    let answer = answer_seen site p c.apart-answered.result.answered in
    let parts = c.apart-answered.ensures site p bytes made (phased.is_for w site p bytes o) (phased.reply_so w site p there c.in_ok-reply.reply o c.args.outcome refl refl c.in_ok-reply.ensures) in
    at_once (phased.answers_so w c.args.left c.args.ssi made answer bytes c.apart-answered.result.facts c.apart-answered.result.body _ vars parts.0 parts.1 c.in-Page.is
    ∙ (phased.plain_so w c.args.left c.args.ssi answer (page_of c.in-Page.code) vars
    ∙ ap (λ m. (m, vars)) (ap (λ b. Write b (Done answer)) (sym (phased.none_behind c.page_text.new.out text ∙ (c.in_ok-page_text-in-Page.ensures ∙ ap (λ b. b ++ page_of c.in-Page.code) c.new-bytes.ensures)))
    ∙ sym (c.in_ok-plain-in-Page.ensures.acts g p c.args.left patterns path text))))

pub returns-in_ok-sent-in-Text-clause-acts : goal.returns-in_ok-sent-in-Text-clause-acts
returns-in_ok-sent-in-Text-clause-acts c = λ patterns path text vars.
    let g = c.args.ground.now in
    let site = g.site.now in
    let p = c.args.phases.now in
    let w = world_in patterns g shipped in
    let o = c.args.outcome in
    let there = known_text c.args.known text in
    let bytes = bytes_for o there in
    let made = prepared_as w (asked_in p) (standing_seen site p.at) bytes o in
    let answer = answer_seen site p c.apart-answered.result.answered in
    let facts = c.apart-answered.result.facts in
    let parts = c.apart-answered.ensures site p bytes made (phased.is_for w site p bytes o) (phased.reply_so w site p there c.in_ok-reply.reply o c.args.outcome refl refl c.in_ok-reply.ensures) in
    turns_by (phased.answers_so w c.args.left c.args.ssi made answer bytes facts c.apart-answered.result.body _ vars parts.0 parts.1 c.in-Text.is
    ∙ ap (λ b. settled (body_then w c.args.left c.args.ssi answer (sent_as facts b)) vars) (sym (phased.none_behind c.in-Text.text text)))
    (c.in_ok-sent-in-Text.ensures.acts g p c.args.left patterns path text vars c.scene_of-scene.ensures)

pub returns-in_ok-sent-in-File-clause-acts : goal.returns-in_ok-sent-in-File-clause-acts
returns-in_ok-sent-in-File-clause-acts c = λ patterns path text vars.
    let g = c.args.ground.now in
    let site = g.site.now in
    let p = c.args.phases.now in
    let w = world_in patterns g shipped in
    let o = c.args.outcome in
    let there = known_text c.args.known text in
    let bytes = bytes_for o there in
    let made = prepared_as w (asked_in p) (standing_seen site p.at) bytes o in
    let answer = answer_seen site p c.apart-answered.result.answered in
    let facts = c.apart-answered.result.facts in
    let parts = c.apart-answered.ensures site p bytes made (phased.is_for w site p bytes o) (phased.reply_so w site p there c.in_ok-reply.reply o c.args.outcome refl refl c.in_ok-reply.ensures) in
    turns_by (phased.answers_so w c.args.left c.args.ssi made answer bytes facts c.apart-answered.result.body _ vars parts.0 parts.1 c.in-File.is
    ∙ ap (λ b. settled (body_then w c.args.left c.args.ssi answer (sent_as facts b)) vars)
    (sym (c.in_ok-source-in-File.ensures text ∙ c.file_len-len.ensures there)))
    (c.in_ok-sent-in-File.ensures.acts g p c.args.left patterns path text vars c.scene_of-scene.ensures)
