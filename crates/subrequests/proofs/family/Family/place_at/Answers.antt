use Rattle.std.proofs.Common.{set, take, sym, ap, ◌∙◌, subst}
use Rattle.request_meaning.specs.Laws.{shipped}
use Rattle.node_line.specs.request_phases.Rounds.{world_in}
use Rattle.postpone_filter.specs.Row.{Row, is_open}
use Rattle.node_line.specs.node_turn.Stages.{hand_at, is_placing}
use Rattle.node_seats.specs.Seats.{is_captured, seen}
use Rattle.family_nodes.specs.Runs.{runs_at}
use Rattle.family_nodes.proofs.Sets.{get_set_same}
use Rattle.node_line.specs.Stances.{Opening}
use Rattle.subrequests.proofs.Members as members
use Rattle.subrequests.proofs.Wholes as wholes
use Rattle.subrequests.proofs.family.Family.place_at.Goals as goal

pub returns-clause-steps : goal.returns-clause-steps
returns-clause-steps c = λ ps g.
    let f = c.args.self.now in
    let site = g.site.now in
    let w = world_in ps g shipped in
    let nodes = f.nodes in
    let at = c.args.at in
    let old = c.node_mut-node.result.now in
    let new = c.places.new.node in
    let some = take c.in_ok-places.field-0.count (hand_at old.stage) in
    let is = c.in_ok-places.ensures in
    let there = wholes.here_is is_placing nodes at old c.requires.there c.node_mut-node.ensures.value in
    let goes_on = wholes.open_is is_placing f.order nodes at c.requires.whole c.requires.there in
    wholes.both_ways c.shows_the_same.ensures ps g f _ 0 (wholes.as_many nodes at new)
    (λ tree texts. subst (λ (r : Row). Opening w tree 0 (seen w ps site f.main f.order nodes texts) f.vars (seen w ps site f.main r (set nodes at new) texts) f.vars) (sym is.row)
    (members.placed c.shows_the_same.ensures w ps site f.main f.order nodes texts at old there c.requires.whole goes_on c.requires.seated tree f.vars some new is.node (wholes.in_row nodes at old c.requires.row there) is.place
    (ap (λ (r : Row). is_open at r.pieces) (sym is.row) ∙ (is.opened at ∙ goes_on)) (is.acts w ps site f.main (texts at))))
    (λ trees. members.set_files trees nodes at old new there (λ reads. members.same_text trees old new is.file))

pub returns-clause-whole : goal.returns-clause-whole
returns-clause-whole c =
    let f = c.args.self.now in
    members.set_sound f.order c.places.new.order f.nodes c.args.at c.node_mut-node.result.now c.places.new.node
    (wholes.here_is is_placing f.nodes c.args.at c.node_mut-node.result.now c.requires.there c.node_mut-node.ensures.value) c.requires.whole
    (members.appended_well f.order c.places.new.order c.args.at (take c.in_ok-places.field-0.count (hand_at c.node_mut-node.result.now.stage)) c.requires.whole.well c.in_ok-places.ensures.row)
    (ap (λ (r : Row). r.nodes) c.in_ok-places.ensures.row)
    c.in_ok-places.ensures.opened c.in_ok-places.ensures.node.over (ap is_captured c.in_ok-places.ensures.place) c.in_ok-places.ensures.node.parent

pub returns-clause-rests : goal.returns-clause-rests
returns-clause-rests c =
    let f = c.args.self.now in
    let nodes = f.nodes in
    let at = c.args.at in
    let old = c.node_mut-node.result.now in
    let new = c.places.new.node in
    let there = wholes.here_is is_placing nodes at old c.requires.there c.node_mut-node.ensures.value in
    c.can_run.ensures ∙ ap (runs_at c.places.new.order at) (sym (wholes.found_there (set nodes at new) at c.node_at.result.now new (get_set_same nodes at new old there) c.node_at.ensures))
