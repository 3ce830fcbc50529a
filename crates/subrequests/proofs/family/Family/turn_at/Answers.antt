use Rattle.std.proofs.Common.{set, refl, sym, ap, subst}
use Rattle.ngx_variables.specs.declared.request.Main.{Main}
use Rattle.request_meaning.specs.Laws.{shipped}
use Rattle.node_line.specs.request_phases.Rounds.{world_in}
use Rattle.node_line.specs.node_turn.Stages.{is_turning}
use Rattle.node_seats.specs.Seats.{is_captured, seen}
use Rattle.node_line.specs.Stances.{Opening}
use Rattle.subrequests.proofs.Members as members
use Rattle.subrequests.proofs.Wholes as wholes
use Rattle.subrequests.proofs.family.Family.turn_at.Goals as goal

pub returns-clause-steps : goal.returns-clause-steps
returns-clause-steps c =
    let f = c.args.self.now in
    let ps = c.args.patterns.now in
    let g = c.args.ground.now in
    let site = g.site.now in
    let w = world_in ps g shipped in
    let nodes = f.nodes in
    let at = c.args.at in
    let old = c.node_mut-node.result.now in
    let new = c.turns.new.node in
    let there = wholes.here_is is_turning nodes at old c.requires.there c.node_mut-node.ensures.value in
    let goes_on = wholes.open_is is_turning f.order nodes at c.requires.whole c.requires.there in
    let is = c.in_ok-turns.ensures in
    wholes.both_ways c.shows_the_same.ensures ps g f _ 0 (wholes.as_many nodes at new)
    (λ tree texts. subst (λ (m : Main). Opening w tree 0 (seen w ps site f.main f.order nodes texts) f.vars (seen w ps site m f.order (set nodes at new) texts) c.turns.new.vars) (sym is.main)
    (members.turned c.shows_the_same.ensures w ps site f.main f.order nodes texts at old there c.requires.whole goes_on c.requires.seated
    tree f.vars c.turns.new.vars new is.node is.place (is.acts (texts at))))
    (λ trees. members.set_files trees nodes at old new there (members.kept_text trees old new is.file))

pub returns-clause-whole : goal.returns-clause-whole
returns-clause-whole c =
    let f = c.args.self.now in
    members.set_sound f.order f.order f.nodes c.args.at c.node_mut-node.result.now c.turns.new.node
    (wholes.here_is is_turning f.nodes c.args.at c.node_mut-node.result.now c.requires.there c.node_mut-node.ensures.value) c.requires.whole c.requires.whole.well refl (λ j. refl) c.in_ok-turns.ensures.node.over (ap is_captured c.in_ok-turns.ensures.place) c.in_ok-turns.ensures.node.parent
