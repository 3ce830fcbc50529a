use Rattle.std.proofs.Common.{ℕ, List, [], None, length, sym, ap, ◌∙◌, cond}
use Rattle.file_tree.specs.Tree.{text_of}
use Rattle.request_meaning.specs.Laws.{shipped}
use Rattle.reply_out.specs.rewrite_code.Places.{standing_seen}
use Rattle.reply_out.specs.request_phases.Rounds.{world_in, asked_in, prepared_as}
use Rattle.reply_out.specs.request_reply.Replies.{body_seen}
use Rattle.request_flow.specs.declared.flow.Onward.{Onward}
use Rattle.request_flow.specs.Flows.{flow_rest, item_asked}
use Rattle.request_flow.specs.Padded.{padded}
use Rattle.request_flow.specs.Terms.{terms_seen}
use Rattle.reply_out.specs.Puts.{sent_now}
use Rattle.request_flow.specs.Sents.{known_bytes, known_tree, plain_bytes, file_known}
use Rattle.request_flow.proofs.Padding.{padded_length}
use Rattle.request_flow.proofs.Puts as puts
use Rattle.request_flow.proofs.Turns.{done_rest}
use Rattle.request_flow.proofs.steps.answer.Goals as goal

pub returns-in-None-clause-goes : goal.returns-in-None-clause-goes
returns-in-None-clause-goes c = λ patterns trees.
    let g = c.args.ground.now in
    let site = g.site.now in
    let w = world_in patterns g shipped in
    let p = c.args.request.now.phases in
    let s = standing_seen site p.at in
    let known = c.args.known in
    let bytes = known_bytes known trees in
    let t = c.args.request.now.terms in
    let reply = c.in_ok-reply.reply in
    let made = prepared_as w (asked_in p) s bytes c.args.outcome in
    let is = puts.replied patterns g p known trees c.length_in.result c.args.outcome c.with_length-outcome.result t reply
    (sym c.is_plain.ensures ∙ c.if-not-is_plain.false) c.length_in.ensures c.with_length-outcome.ensures c.in_ok-reply.ensures in
    puts.moved_follows site _ _ _ _ c.args.out.now c.put_reply.new.out c.args.closing _ _ _ _ _ _
    (done_rest w (trees (known_tree known)) (terms_seen t) made bytes reply.body c.args.request.now.vars is.body)
    (ap (λ (o : Onward). flow_rest w patterns site o.flow trees) c.over.ensures.is) (ap (λ (o : Onward). o.closing) c.over.ensures.is)
    (ap (λ (o : Onward). o.log) c.over.ensures.is) (ap (λ (o : Onward). o.level) c.over.ensures.is)
    (puts.over_follows site p.at.level t c.level-level.result.now reply bytes made c.args.request.now.vars is c.level-level.ensures
    (puts.values_are w (asked_in p) s bytes c.args.outcome)
    c.args.out.now c.put_reply.new.out c.args.closing c.closes-closing.result c.stays-keep.result c.in_ok-size.size c.stays-keep.ensures c.closes-closing.ensures c.in_ok-size.ensures.put c.in_ok-size.ensures.size
    (puts.no_file t reply made known trees is (puts.gone_bare w (asked_in p) s bytes c.args.outcome)
    (ap (λ b. file_known b known) (sym c.sends_file.ensures) ∙ (sym c.file_if-file.ensures ∙ c.in-None.is))))

pub returns-then-is_empty-clause-goes : goal.returns-then-is_empty-clause-goes
returns-then-is_empty-clause-goes c = λ patterns trees.
    let g = c.args.ground.now in
    let site = g.site.now in
    let w = world_in patterns g shipped in
    let p = c.args.request.now.phases in
    let s = standing_seen site p.at in
    let known = c.args.known in
    let bytes = known_bytes known trees in
    let t = c.args.request.now.terms in
    let reply = c.in_ok-reply.reply in
    let made = prepared_as w (asked_in p) s bytes c.args.outcome in
    let file = c.in-Some.file in
    let is = puts.replied patterns g p known trees c.length_in.result c.args.outcome c.with_length-outcome.result t reply
    (sym c.is_plain.ensures ∙ c.if-not-is_plain.false) c.length_in.ensures c.with_length-outcome.ensures c.in_ok-reply.ensures in
    let sent = puts.file_sent t reply known file (ap (λ b. file_known b known) (sym c.sends_file.ensures) ∙ (sym c.file_if-file.ensures ∙ c.in-Some.is)) in
    let item = item_asked trees file.ask in
    let text = ap plain_bytes (sym is.body) ∙ (ap (λ b. plain_bytes (body_seen bytes None b)) sent.is ∙ (ap (λ k. known_bytes k trees) sent.told
    ∙ ap (padded file.len) (puts.unknown file.text (text_of item) (sym c.is_empty.ensures ∙ c.if-is_empty.true)))) in
    puts.moved_follows site _ _ _ _ c.args.out.now c.put_reply.new.out c.args.closing _ _ _ _ _ _
    (done_rest w (trees (known_tree known)) (terms_seen t) made bytes reply.body c.args.request.now.vars is.body)
    (c.reading.ensures.rest w patterns site trees) c.reading.ensures.others.0 c.reading.ensures.others.1 c.reading.ensures.others.2
    (puts.file_follows site p.at.level t c.level-level.result.now reply bytes made c.args.request.now.vars is c.level-level.ensures
    (puts.values_are w (asked_in p) s bytes c.args.outcome)
    c.args.out.now c.put_reply.new.out c.args.closing c.closes-closing.result c.stays-keep.result c.in_ok-size.size c.stays-keep.ensures c.closes-closing.ensures c.in_ok-size.ensures.put c.in_ok-size.ensures.size
    file.len item sent.sent (sym is.gone ∙ sent.there)
    (ap (λ b. cond t.no_body [] (sent_now b)) sent.is ∙ ap (λ n. cond {A = List ℕ} n [] []) sent.sent) text (ap length text ∙ padded_length file.len (text_of item)))

pub returns-in_ok-put_whole-in-Some-clause-goes : goal.returns-in_ok-put_whole-in-Some-clause-goes
returns-in_ok-put_whole-in-Some-clause-goes c = λ patterns trees.
    let g = c.args.ground.now in
    let site = g.site.now in
    let w = world_in patterns g shipped in
    let p = c.args.request.now.phases in
    let s = standing_seen site p.at in
    let known = c.args.known in
    let bytes = known_bytes known trees in
    let t = c.args.request.now.terms in
    let reply = c.in_ok-reply.reply in
    let made = prepared_as w (asked_in p) s bytes c.args.outcome in
    let file = c.in-Some.file in
    let is = puts.replied patterns g p known trees c.length_in.result c.args.outcome c.with_length-outcome.result t reply
    (sym c.is_plain.ensures ∙ c.if-not-is_plain.false) c.length_in.ensures c.with_length-outcome.ensures c.in_ok-reply.ensures in
    let sent = puts.file_sent t reply known file (ap (λ b. file_known b known) (sym c.sends_file.ensures) ∙ (sym c.file_if-file.ensures ∙ c.in-Some.is)) in
    let item = item_asked trees file.ask in
    let text = ap plain_bytes (sym is.body) ∙ (ap (λ b. plain_bytes (body_seen bytes None b)) sent.is ∙ (ap (λ k. known_bytes k trees) sent.told
    ∙ puts.whole_known file.text file.len (text_of item) (sym c.is_empty.ensures ∙ c.if-is_empty.false) c.in_ok-put_whole-in-Some.ensures.len)) in
    puts.moved_follows site _ _ _ _ c.args.out.now c.put_whole.new.out c.args.closing _ _ _ _ _ _
    (done_rest w (trees (known_tree known)) (terms_seen t) made bytes reply.body c.args.request.now.vars is.body)
    (ap (λ (o : Onward). flow_rest w patterns site o.flow trees) c.over-in-Some.ensures.is) (ap (λ (o : Onward). o.closing) c.over-in-Some.ensures.is)
    (ap (λ (o : Onward). o.log) c.over-in-Some.ensures.is) (ap (λ (o : Onward). o.level) c.over-in-Some.ensures.is)
    (puts.whole_follows site p.at.level t c.level-level.result.now reply bytes made c.args.request.now.vars is c.level-level.ensures
    (puts.values_are w (asked_in p) s bytes c.args.outcome)
    c.args.out.now c.put_reply.new.out c.args.closing c.closes-closing.result c.stays-keep.result c.in_ok-size.size c.stays-keep.ensures c.closes-closing.ensures c.in_ok-size.ensures.put c.in_ok-size.ensures.size
    file.len file.text c.put_whole.new.out sent.sent (sym is.gone ∙ sent.there)
    (ap (λ b. cond t.no_body [] (sent_now b)) sent.is ∙ ap (λ n. cond {A = List ℕ} n [] []) sent.sent) text c.in_ok-put_whole-in-Some.ensures.len c.in_ok-put_whole-in-Some.ensures.put)
