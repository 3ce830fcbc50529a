use Rattle.std.proofs.Common.{◌≡◌, sym, ◌∙◌, subst}
use Rattle.request_reply.specs.request_meaning.Laws.{shipped}
use Rattle.request_reply.specs.request_phases.Rounds.{world_in}
use Rattle.request_reply.specs.request_phases.declared.state.Phases.{Phases}
use Rattle.node_turn.specs.Stages.{node_act, node_heard}
use Rattle.node_turn.specs.Nodes.{answer_seen, asked_path, captured_act, later, lent, served_act, stage_act, with_main}
use Rattle.node_turn.specs.Served.{ServesTo}
use Rattle.node_turn.specs.Taken.{TakesTo}
use Rattle.node_turn.specs.declared.node.Node.{Node}
use Rattle.node_turn.proofs.Phased as phased
use Rattle.node_turn.proofs.turn.takes.Goals as goal

pub returns-in_ok-turn_of-in-Serves-clause-acts : goal.returns-in_ok-turn_of-in-Serves-clause-acts
returns-in_ok-turn_of-in-Serves-clause-acts c = λ patterns text.
    let g = c.args.ground.now in
    let site = g.site.now in
    let w = world_in patterns g shipped in
    let main = c.args.main.now in
    let n = c.args.node.now in
    let b = c.in-Serves.body.value in
    let vars = c.args.vars.now in
    let path = asked_path n.ask in
    let mid = c.stage_of.new.node in
    let one = c.lend_method.new.main in
    let own = c.lend_method.new.phases in
    let given = with_main one own in
    let back = c.lend_method-in-Serves.new.phases in
    let same : given ≡ lent main mid.phases = phased.seen_main main one mid.phases own c.lend_method.ensures.main c.lend_method.ensures.phases in
    let result = c.in_ok-turn_of-in-Serves.field-0 in
    let new = node_act w patterns site main c.turn_of.new.node text in
    let heard = node_heard w patterns site main c.turn_of.new.node text in
    let returned = phased.method_back main one mid.phases own back c.lend_method.ensures.main c.lend_method.ensures.phases c.lend_method-in-Serves.ensures.phases ∙ sym same in
    let acts = λ (p : Phases). served_act w site p mid.left (answer_seen site p b.answered) b.page (later b text) in
    let serves = subst (λ (p : Phases). ServesTo g p mid.left patterns (asked_path mid.ask) text vars (acts given) c.served.new.stage c.in_ok-served-in-Serves.served) (sym returned)
    (c.in_ok-served-in-Serves.ensures.acts patterns (asked_path mid.ask) text) in
    let taken = c.in_ok-turn_of-in-Serves.ensures.acts g patterns main text vars (acts given) serves in
    let is = sym c.stage_of.ensures.stage ∙ c.in-Serves.is in
    subst (λ s. TakesTo (lent main n.phases).main vars (stage_act w patterns site (lent main n.phases) n.left path s text) new heard result) (sym is)
    (subst (λ (m : Node). TakesTo (lent main m.phases).main vars (served_act w site (lent main m.phases) m.left (answer_seen site (lent main m.phases) b.answered) b.page (later b text)) new heard result) c.stage_of.ensures.node
    (subst (λ (p : Phases). TakesTo p.main vars (acts p) new heard result) same
    (subst (λ (p : Phases). TakesTo p.main vars (acts given) new heard result) returned taken)))

pub returns-in_ok-turn_of-in-Captures-clause-acts : goal.returns-in_ok-turn_of-in-Captures-clause-acts
returns-in_ok-turn_of-in-Captures-clause-acts c = λ patterns text.
    let g = c.args.ground.now in
    let site = g.site.now in
    let w = world_in patterns g shipped in
    let main = c.args.main.now in
    let n = c.args.node.now in
    let b = c.in-Captures.capture.body.value in
    let vars = c.args.vars.now in
    let path = asked_path n.ask in
    let mid = c.stage_of.new.node in
    let one = c.lend_method-in-Captures.new.main in
    let own = c.lend_method-in-Captures.new.phases in
    let given = with_main one own in
    let back = c.lend_method-in-Captures-2.new.phases in
    let same : given ≡ lent main mid.phases = phased.seen_main main one mid.phases own c.lend_method-in-Captures.ensures.main c.lend_method-in-Captures.ensures.phases in
    let result = c.in_ok-turn_of-in-Captures.field-0 in
    let new = node_act w patterns site main c.turn_of-in-Captures.new.node text in
    let heard = node_heard w patterns site main c.turn_of-in-Captures.new.node text in
    let returned = phased.method_back main one mid.phases own back c.lend_method-in-Captures.ensures.main c.lend_method-in-Captures.ensures.phases c.lend_method-in-Captures-2.ensures.phases ∙ sym same in
    let acts = λ (p : Phases). captured_act w site p mid.left (answer_seen site p b.answered) b.page (later b text) c.in-Captures.capture.name c.in-Captures.capture.text in
    let serves = subst (λ (p : Phases). ServesTo g p mid.left patterns (asked_path mid.ask) text vars (acts given) c.heard.new.stage c.in_ok-served-in-Captures.served) (sym returned)
    (c.in_ok-served-in-Captures.ensures.acts patterns (asked_path mid.ask) text vars) in
    let taken = c.in_ok-turn_of-in-Captures.ensures.acts g patterns main text vars (acts given) serves in
    let is = sym c.stage_of.ensures.stage ∙ c.in-Captures.is in
    subst (λ s. TakesTo (lent main n.phases).main vars (stage_act w patterns site (lent main n.phases) n.left path s text) new heard result) (sym is)
    (subst (λ (m : Node). TakesTo (lent main m.phases).main vars (captured_act w site (lent main m.phases) m.left (answer_seen site (lent main m.phases) b.answered) b.page (later b text) c.in-Captures.capture.name c.in-Captures.capture.text) new heard result) c.stage_of.ensures.node
    (subst (λ (p : Phases). TakesTo p.main vars (acts p) new heard result) same
    (subst (λ (p : Phases). TakesTo p.main vars (acts given) new heard result) returned taken)))
