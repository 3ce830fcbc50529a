use Rattle.std.proofs.Common.{List, ℕ, ◌+◌, ◌*◌, ◌<◌, ◌≤◌, length, false, sym, subst, arith}
use Rattle.ngx_pattern.specs.Pattern.{Pattern as SetPattern}
use Rattle.reply_out.specs.pattern_search.Found.{patterns_seen}
use Rattle.reply_out.specs.site_whole.Whole.{server_whole}
use Rattle.reply_out.specs.answers_meaning.Asking.{request_of}
use Rattle.request_meaning.specs.Laws.{shipped}
use Rattle.reply_out.specs.request_phases.Rounds.{world_in}
use Rattle.request_flow.specs.declared.flow.Onward.{Onward}
use Rattle.request_flow.specs.declared.page.Went.{Went}
use Rattle.request_flow.specs.declared.page.Went.TheVariants.{On, Asks, Page}
use Rattle.request_flow.specs.Flows.{asking_most, flow_left, flow_most}
use Rattle.request_flow.specs.Pages.{GoesTo, IfOn}
use Rattle.reply_out.specs.request_opening.Openings.{main_at}
use Rattle.request_flow.specs.Terms.{terms_at}
use Rattle.request_flow.specs.Rests.{opened_rest}
use Rattle.request_flow.proofs.steps.start.Goals as goal

pub returns-in_ok-go_on-in-Ok-begun-clause-goes : goal.returns-in_ok-go_on-in-Ok-begun-clause-goes
returns-in_ok-go_on-in-Ok-begun-clause-goes c = λ trees.
    let g = c.args.ground.now in
    let site = g.site.now in
    let opening = c.args.opening in
    let patterns = c.room.new.self.patterns in
    let w = world_in patterns g shipped in
    let went = c.in_ok-go_on-in-Ok-begun.field-0 in
    subst (λ (ps : List SetPattern). (let w = world_in ps g shipped in
    GoesTo w ps site trees (opened_rest w (trees opening.tree) (terms_at opening) (main_at g opening) (request_of (server_whole (patterns_seen ps) site g.server.now) opening.head)) c.args.out.now c.go_on.new.out false went)) c.room.ensures
    (subst (λ b. GoesTo w patterns site trees b c.args.out.now c.go_on.new.out false went) (sym (c.in-Ok-begun.ensures.goes trees))
    (c.in_ok-go_on-in-Ok-begun.ensures.goes patterns trees))

lowered : (went : Went) (size : Onward → ℕ) (questions : ℕ) → IfOn went (λ o. size o < flow_most + 2 * questions + 1) → questions ≤ 4294967295 → IfOn went (λ o. size o < asking_most)
unfolding asking_most
lowered (On o) size questions lower few = omega (arith, lower, few)
lowered (Asks a) size questions lower few = tt
lowered (Page p) size questions lower few = tt

pub returns-in_ok-go_on-in-Ok-begun-clause-lowers : goal.returns-in_ok-go_on-in-Ok-begun-clause-lowers
returns-in_ok-go_on-in-Ok-begun-clause-lowers c =
    lowered c.in_ok-go_on-in-Ok-begun.field-0 (λ o. length c.go_on.new.out + flow_left o.flow (length c.go_on.new.out)) _ c.in_ok-go_on-in-Ok-begun.ensures.lowers c.begun.ensures.questions
