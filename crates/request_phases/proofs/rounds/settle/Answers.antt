use Rattle.std.proofs.Common.{◌≡◌, ◌-◌, sym, ◌∙◌, ap, subst}
use Rattle.acts.specs.Act.{Done, settled}
use Rattle.rewrite_code.specs.Places.{standing_seen}
use Rattle.request_meaning.specs.Phases.{rounds, phases_from}
use Rattle.request_phases.specs.Nexts.{next_in, last_outcome}
use Rattle.ngx_variables.specs.declared.request.Main.{Main}
use Rattle.request_phases.specs.Rounds.{world_in, IsOfMain, asked_in, asked_from, from_seen, prepared_as, reached_in}
use Rattle.request_phases.proofs.Ahead as ahead
use Rattle.request_phases.proofs.Nexts as nexts
use Rattle.request_phases.proofs.rounds.settle.Goals as goal

-- of the main request of one that is of it
of_main : (a b d : Main) → IsOfMain a b → IsOfMain b d → IsOfMain a d
of_main a b d e f = f ∙ ap (λ (x : Main). record x { method = d.method }) e

pub returns-in-Waits-clause-does : goal.returns-in-Waits-clause-does
returns-in-Waits-clause-does c = λ bytes members.
    let g = c.args.ground.now in
    let site = g.site.now in
    let ps = c.args.patterns.now in
    let w = world_in ps g members in
    let p = c.loop-reached.phases in
    let vars = c.loop-reached.vars in
    sym (c.loop-reached.invariant.1 bytes members)
    ∙ (ap (λ r. settled (ahead.ahead w ps site bytes p r) vars) c.in-Waits.is ∙ ahead.waits_so w ps site bytes vars p c.in-Waits.wait c.in-Waits.path)

pub returns-in-Calls-clause-does : goal.returns-in-Calls-clause-does
returns-in-Calls-clause-does c = λ bytes members.
    let g = c.args.ground.now in
    let site = g.site.now in
    let ps = c.args.patterns.now in
    let w = world_in ps g members in
    let p = c.loop-reached.phases in
    let vars = c.loop-reached.vars in
    sym (c.loop-reached.invariant.1 bytes members)
    ∙ (ap (λ r. settled (ahead.ahead w ps site bytes p r) vars) c.in-Calls.is ∙ ahead.calls_so w ps site bytes vars p c.in-Calls.path)

pub returns-then-phases-eq0-clause-does : goal.returns-then-phases-eq0-clause-does
returns-then-phases-eq0-clause-does c = λ bytes members.
    let g = c.args.ground.now in
    let site = g.site.now in
    let ps = c.args.patterns.now in
    let w = world_in ps g members in
    let p = c.loop-reached.phases in
    let vars = c.loop-reached.vars in
    let d = c.in-Decides.decision in
    sym (c.loop-reached.invariant.1 bytes members)
    ∙ (ap (λ r. settled (ahead.ahead w ps site bytes p r) vars) c.in-Decides.is
    ∙ (ahead.ends_so w ps site bytes vars p d c.if-phases-eq0.true (nexts.last_is w site p bytes vars d)
    ∙ (ap (λ q. (Done (prepared_as w (asked_in q) (standing_seen site q.at) bytes (last_outcome d)), vars)) (sym c.last_of.ensures.phases)
    ∙ ap (λ o. (Done (prepared_as w (asked_in c.last_of.new.phases) (standing_seen site c.last_of.new.phases.at) bytes o), vars)) (sym c.last_of.ensures.answer))))

pub returns-in-Answers-clause-does : goal.returns-in-Answers-clause-does
returns-in-Answers-clause-does c = λ bytes members.
    let g = c.args.ground.now in
    let site = g.site.now in
    let ps = c.args.patterns.now in
    let w = world_in ps g members in
    let p = c.loop-reached.phases in
    let vars = c.loop-reached.vars in
    let d = c.in-Decides.decision in
    sym (c.loop-reached.invariant.1 bytes members)
    ∙ (ap (λ r. settled (ahead.ahead w ps site bytes p r) vars) c.in-Decides.is
    ∙ ahead.changes_so w ps site bytes vars p d c.if-phases-eq0.false
    (c.in_ok-outcome-in-Decides.ensures.next ps bytes members (rounds w (p.changes - 1))
    ∙ (ap (λ next. settled (next_in w site bytes c.next_of.new.phases (rounds w (p.changes - 1)) next) vars) c.in-Answers.is
    ∙ ahead.done_so (prepared_as w (asked_in c.next_of.new.phases) (standing_seen site c.next_of.new.phases.at) bytes c.in-Answers.outcome) vars)))

pub loop-reached-preserved : goal.loop-reached-preserved
loop-reached-preserved c = (
  (c.round.ensures.kept ∙ c.loop-reached.invariant.0.0, of_main c.args.phases.now.main c.loop-reached.phases.main c.next_of.new.phases.main c.loop-reached.invariant.0.1 c.in_ok-outcome-in-Decides.ensures.main),
  λ bytes members.
      let g = c.args.ground.now in
      let site = g.site.now in
      let ps = c.args.patterns.now in
      let w = world_in ps g members in
      let p = c.loop-reached.phases in
      let vars = c.loop-reached.vars in
      let d = c.in-Decides.decision in
      let q = c.next_of.new.phases in
      let from = from_seen site q.at c.in-Changed.from in
      let reached = c.in_ok-reached-in-Changed.reached in
      sym (ap (λ r. settled (ahead.ahead w ps site bytes p r) vars) c.in-Decides.is
      ∙ ahead.changes_so w ps site bytes vars p d c.if-phases-eq0.false
      (c.in_ok-outcome-in-Decides.ensures.next ps bytes members (rounds w (p.changes - 1))
      ∙ (ap (λ next. settled (next_in w site bytes q (rounds w (p.changes - 1)) next) vars) c.in-Changed.is
      ∙ (ahead.again_so w ps site bytes (p.changes - 1) q from c.round.new.at reached vars c.round.new.vars
      (subst (λ qs. settled (phases_from (world_in qs g members) (asked_from q from) from) vars ≡ (reached_in (world_in qs g members) qs site (asked_from q from) bytes c.round.new.at reached, c.round.new.vars)) c.loop-reached.invariant.0.0
      (c.in_ok-reached-in-Changed.ensures.does bytes members (asked_from q from)))
      ∙ ap (λ n. settled (ahead.ahead w ps site bytes (record q { at = c.round.new.at; changes = n - 1; role = q.at.request.role }) reached) c.round.new.vars) (sym c.in_ok-outcome-in-Decides.ensures.changes)))))
      ∙ c.loop-reached.invariant.1 bytes members,
)
