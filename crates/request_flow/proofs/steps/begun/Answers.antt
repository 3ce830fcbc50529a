use Rattle.std.proofs.Common.{[], sym, ap, ◌∙◌, subst}
use Rattle.acts.specs.Act.{settled}
use Rattle.reply_out.specs.pattern_search.Found.{patterns_seen}
use Rattle.reply_out.specs.site_whole.Whole.{server_whole}
use Rattle.reply_out.specs.answers_meaning.Asking.{request_of}
use Rattle.request_meaning.specs.Laws.{shipped}
use Rattle.request_meaning.specs.Phases.{rounds}
use Rattle.request_meaning.specs.Replies.{outside}
use Rattle.request_meaning.specs.Serving.From.{Start}
use Rattle.reply_out.specs.request_phases.Rounds.{world_in, phases_left, asked_from}
use Rattle.reply_out.specs.request_phases.declared.state.Phases.{Phases}
use Rattle.reply_out.specs.request_opening.Openings.{main_at}
use Rattle.request_flow.specs.Terms.{terms_seen}
use Rattle.request_flow.specs.Reached.{Settles}
use Rattle.request_flow.specs.Rests.{act_rest, finished, opened_rest}
use Rattle.request_flow.proofs.Padding.{padded_none}
use Rattle.request_flow.proofs.Reaching.{goes_on, starts}
use Rattle.request_flow.proofs.Turns.{act_settles}
use Rattle.request_flow.proofs.steps.begun.Goals as goal

pub returns-clause-goes : goal.returns-clause-goes
returns-clause-goes c = λ trees.
    let g = c.args.ground.now in
    let site = g.site.now in
    let patterns = c.args.space.now.patterns in
    let w = world_in patterns g shipped in
    let opening = c.args.opening in
    let tree = trees opening.tree in
    let main = main_at g opening in
    let request = request_of (server_whole (patterns_seen patterns) site g.server.now) opening.head in
    let p = c.put_phases.new.phases in
    let vars = c.put.new.slot in
    let t = terms_seen c.terms_of-terms.result in
    ap (λ u. opened_rest w tree u main request) (sym c.terms_of-terms.ensures)
    ∙ (ap (λ v. act_rest w tree t (rounds w 10 (outside main request)) v) (sym (c.put.ensures ∙ c.new.ensures))
    ∙ (ap (λ (p : Phases). act_rest w tree t (rounds w p.changes (asked_from p Start)) vars) (sym (c.in_ok-put_phases.ensures patterns site))
    ∙ act_settles w tree t (rounds w p.changes (asked_from p Start)) (phases_left w patterns site [] c.begin.new.phases c.in_ok-step.step) vars c.begin.new.vars (c.in_ok-step.ensures.does [] shipped)))

pub returns-clause-reached : goal.returns-clause-reached
returns-clause-reached c = λ text.
    let g = c.args.ground.now in
    let site = g.site.now in
    let patterns = c.args.space.now.patterns in
    let w = world_in patterns g shipped in
    let opening = c.args.opening in
    let main = main_at g opening in
    let request = request_of (server_whole (patterns_seen patterns) site g.server.now) opening.head in
    let p = c.put_phases.new.phases in
    let vars = c.put.new.slot in
    let q = c.begin.new.phases in
    let step = c.in_ok-step.step in
    subst (λ b. Settles w (finished w (phases_left w patterns site b q step)) c.begin.new.vars) (sym (padded_none text))
    (goes_on w (rounds w 10 (outside main request)) (phases_left w patterns site [] q step) [] c.begin.new.vars (starts w main request)
    (ap (λ v. settled (rounds w 10 (outside main request)) v) (sym (c.put.ensures ∙ c.new.ensures))
    ∙ (ap (λ (p : Phases). settled (rounds w p.changes (asked_from p Start)) vars) (sym (c.in_ok-put_phases.ensures patterns site))
    ∙ c.in_ok-step.ensures.does [] shipped)))
