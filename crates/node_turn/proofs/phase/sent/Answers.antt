use Rattle.std.proofs.Common.{List, ℕ, ◌≡◌, ◌++◌, refl, subst, sym, ap, ◌∙◌}
use Rattle.acts.specs.Act.{Done, Write, settled}
use Rattle.request_reply.specs.request_meaning.Laws.{shipped}
use Rattle.request_reply.specs.request_meaning.Serving.Body.{Filtered}
use Rattle.request_reply.specs.request_phases.Rounds.{world_in}
use Rattle.request_reply.specs.Replies.{sent_as}
use Rattle.page_body.specs.Pages.{filtered_rest}
use Rattle.page_body.specs.Reading.{IsWritten}
use Rattle.node_turn.specs.Nodes.{answer_seen, body_then, padded}
use Rattle.node_turn.proofs.Phased as phased
use Rattle.node_turn.proofs.Turning.{at_once, turns_by, turns_on, unfiltered}
use Rattle.node_turn.proofs.phase.sent.Goals as goal

pub returns-in_ok-plain-in-None-clause-acts : goal.returns-in_ok-plain-in-None-clause-acts
returns-in_ok-plain-in-None-clause-acts c = λ g p levels patterns path file vars is.
    let w = world_in patterns g shipped in
    let answer = answer_seen g.site.now p c.args.answered in
    let bytes = c.args.source.text ++ padded c.args.source.left file in
    at_once (ap (λ f. settled (body_then w levels c.args.ssi answer (sent_as f bytes)) vars) c.in-None.is
    ∙ (phased.plain_so w levels c.args.ssi answer bytes vars ∙ ap (λ m. (m, vars)) (sym (c.in_ok-plain-in-None.ensures.acts g p levels patterns path file))))

pub returns-in_ok-paged-in-Some-clause-acts : goal.returns-in_ok-paged-in-Some-clause-acts
returns-in_ok-paged-in-Some-clause-acts c = λ g p levels patterns path file vars is.
    let w = world_in patterns g shipped in
    let answer = answer_seen g.site.now p c.args.answered in
    let bytes = c.args.source.text ++ padded c.args.source.left file in
    at_once (ap (λ f. settled (body_then w levels c.args.ssi answer (sent_as f bytes)) vars) c.in-Some.is
    ∙ (phased.paged_so w levels c.args.ssi answer c.in-Some.facts bytes vars
    ∙ ap (λ m. (m, vars)) (c.in_ok-paged-in-Some.ensures.acts g p levels patterns path file is)))

pub returns-then-is_plain-clause-acts : goal.returns-then-is_plain-clause-acts
returns-then-is_plain-clause-acts c = λ g p levels patterns path file vars is.
    let w = world_in patterns g shipped in
    let answer = answer_seen g.site.now p c.args.answered in
    let text = c.args.source.text in
    let facts = c.in-Some.facts in
    let all : text ++ padded c.args.source.left file ≡ text = ap (λ n. text ++ padded n file) (c.is_whole.ensures c.if-is_whole.true) ∙ phased.none_behind text file in
    let written : IsWritten text (filtered_rest w levels c.args.ssi answer facts text) answer =
    subst (λ (t : List ℕ). IsWritten t (filtered_rest w levels c.args.ssi answer facts t) answer) c.as_slice.ensures (c.is_plain.ensures c.if-is_plain.true w levels c.args.ssi answer refl) in
    turns_by (ap (λ f. settled (body_then w levels c.args.ssi answer (sent_as f (text ++ padded c.args.source.left file))) vars) c.in-Some.is
    ∙ ap (λ b. settled (body_then w levels c.args.ssi answer (Filtered facts b)) vars) all)
    (turns_on (unfiltered w levels c.args.ssi answer facts text vars written)
    (ap (λ b. Write b (Done answer)) (sym (phased.none_behind text file)) ∙ sym (c.in_ok-plain-in-Some.ensures.acts g p levels patterns path file)))
