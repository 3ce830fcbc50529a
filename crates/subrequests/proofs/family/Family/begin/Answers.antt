use Rattle.std.proofs.Common.{◌≡◌, ◌≤◌, false, None, refl, subst, sym, ap, ◌∙◌, arith}
use Rattle.request_meaning.specs.Laws.{shipped}
use Rattle.file_tree.specs.Tree.{known_text}
use Rattle.node_line.specs.request_phases.Rounds.{asked_in, prepared_as, world_in}
use Rattle.node_line.specs.request_phases.declared.state.Phases.{Phases}
use Rattle.acts.specs.Act.{settled}
use Rattle.node_line.specs.rewrite_code.Places.{standing_seen}
use Rattle.node_line.specs.node_turn.Nodes.{after_phases, asked_path, bytes_for, lent, stage_act}
use Rattle.node_line.specs.node_turn.Turns.{TurnsTo}
use Rattle.node_line.specs.node_turn.declared.node.Node.{Node}
use Rattle.node_line.specs.node_turn.declared.node.Place.TheVariants.{Row as InRow}
use Rattle.subrequests.specs.Families.{text_at}
use Rattle.subrequests.proofs.Beginning as beginning
use Rattle.subrequests.proofs.family.Family.begin.Goals as goal

pub returns-clause-begins : goal.returns-clause-begins
returns-clause-begins c = λ ps tree texts first table same.
    let g = c.args.ground.now in
    let site = g.site.now in
    let w = world_in ps g shipped in
    let n : Node = record { parent = 0; left = 50; children = 0; waits = None; asks = None; place = InRow; before = c.new-2.result; phases = c.lend.new.phases; ask = c.args.decided.ask; start = 0; stage = c.in_ok-stage.stage; over = false } in
    let made = c.in_ok-put_all_past.ensures in
    let past = beginning.after_first (c.reserve.ensures ∙ c.new-nodes.ensures) c.in_ok-push.ensures.items made.nodes in
    let path = asked_path c.args.decided.ask in
    let back : lent c.lend.new.main c.lend.new.phases ≡ c.args.phases = beginning.given c.blank_main-main.result c.lend.new.main c.args.phases c.lend.new.phases c.lend.ensures.main c.lend.ensures.phases in
    beginning.begins c.shows_the_same.ensures w tree ps site c.lend.new.main c.put_all_past.new.order c.put_all_past.new.nodes texts c.args.vars c.args.decided.opened n first made.order past refl refl refl
    table c.args.vars (after_phases w 50 c.new.result (prepared_as w (asked_in c.args.phases) (standing_seen site c.args.phases.at) (bytes_for c.args.decided.outcome (known_text c.args.decided.known (texts 0))) c.args.decided.outcome))
    (same ∙ ap (λ ssi. settled (after_phases w 50 ssi (prepared_as w (asked_in c.args.phases) (standing_seen site c.args.phases.at) (bytes_for c.args.decided.outcome (known_text c.args.decided.known (texts 0))) c.args.decided.outcome)) c.args.vars) (sym c.new.ensures))
    (subst (λ (p : Phases). TurnsTo c.args.vars c.args.vars
    (after_phases w 50 c.new.result (prepared_as w (asked_in c.args.phases) (standing_seen site c.args.phases.at) (bytes_for c.args.decided.outcome (known_text c.args.decided.known (texts 0))) c.args.decided.outcome))
    (stage_act w ps site p 50 path c.in_ok-stage.stage (texts 0))) (sym back) (c.in_ok-stage.ensures.acts ps path (texts 0) c.args.vars))

pub returns-clause-whole : goal.returns-clause-whole
returns-clause-whole c =
    let past = beginning.after_first (c.reserve.ensures ∙ c.new-nodes.ensures) c.in_ok-push.ensures.items c.in_ok-put_all_past.ensures.nodes in
    beginning.sound c.put_all_past.new.order c.put_all_past.new.nodes c.args.decided.opened _ c.in_ok-put_all_past.ensures.order past (let few : c.args.decided.opened ≤ 255 = omega arith in few) refl refl

pub returns-clause-files : goal.returns-clause-files
returns-clause-files c = λ trees.
    let past = beginning.after_first (c.reserve.ensures ∙ c.new-nodes.ensures) c.in_ok-push.ensures.items c.in_ok-put_all_past.ensures.nodes in
    ap (text_at trees) (beginning.there c.put_all_past.new.order c.put_all_past.new.nodes c.args.decided.opened _ c.in_ok-put_all_past.ensures.order past)

pub returns-clause-nodes : goal.returns-clause-nodes
returns-clause-nodes c =
    let past = beginning.after_first (c.reserve.ensures ∙ c.new-nodes.ensures) c.in_ok-push.ensures.items c.in_ok-put_all_past.ensures.nodes in
    beginning.many c.put_all_past.new.order c.put_all_past.new.nodes c.args.decided.opened _ c.in_ok-put_all_past.ensures.order past
