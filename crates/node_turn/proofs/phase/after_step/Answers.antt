use Rattle.std.proofs.Common.{sym, ap, ◌∙◌}
use Rattle.acts.specs.Act.{settled}
use Rattle.file_tree.specs.Tree.{known_text}
use Rattle.request_reply.specs.request_meaning.Laws.{shipped}
use Rattle.request_reply.specs.rewrite_code.Places.{standing_seen}
use Rattle.request_reply.specs.request_phases.Rounds.{asked_in, phases_left, prepared_as, world_in}
use Rattle.node_turn.specs.Nodes.{after_phases, bytes_for, padded, served_as}
use Rattle.node_turn.proofs.Phased as phased
use Rattle.node_turn.proofs.Turning.{at_once, turns_by}
use Rattle.node_turn.proofs.phase.after_step.Goals as goal

pub returns-in-Asks-clause-turns : goal.returns-in-Asks-clause-turns
returns-in-Asks-clause-turns c = λ patterns path text vars.
    let g = c.args.ground.now in
    let w = world_in patterns g shipped in
    at_once (ap (λ s. settled (served_as w c.args.left c.args.ssi (phases_left w patterns g.site.now (padded c.args.len (known_text c.args.known text)) c.args.phases.now s)) vars) c.in-Asks.is
    ∙ phased.asks_so w c.args.left c.args.ssi c.in-Asks.path _ vars)

pub returns-in_ok-answering-in-Answers-clause-turns : goal.returns-in_ok-answering-in-Answers-clause-turns
returns-in_ok-answering-in-Answers-clause-turns c = λ patterns path text vars.
    let g = c.args.ground.now in
    let p = c.args.phases.now in
    let s = standing_seen g.site.now p.at in
    let w = world_in patterns g shipped in
    let o = c.in-Answers.outcome in
    let there = known_text c.args.known text in
    turns_by (ap (λ s. settled (served_as w c.args.left c.args.ssi (phases_left w patterns g.site.now (padded c.args.len (known_text c.args.known text)) p s)) vars) c.in-Answers.is
    ∙ (phased.done_so w c.args.left c.args.ssi (prepared_as w (asked_in p) s (padded c.args.len (known_text c.args.known text)) o) vars
    ∙ (ap (λ m. settled (after_phases w c.args.left c.args.ssi m) vars) (phased.same_outcome w (asked_in p) s c.args.len there o)
    ∙ ap (λ o. settled (after_phases w c.args.left c.args.ssi (prepared_as w (asked_in p) s (bytes_for o there) o)) vars) (sym c.with_length-outcome.ensures))))
    (c.in_ok-answering-in-Answers.ensures.acts patterns path text vars)
