use Rattle.std.proofs.Common.{ap, ◌∙◌, refl}
use Rattle.request_meaning.specs.Laws.{shipped}
use Rattle.node_line.specs.request_phases.Rounds.{world_in}
use Rattle.node_line.specs.node_turn.Stages.{may_fetch}
use Rattle.node_seats.specs.Seats.{is_captured}
use Rattle.family_nodes.specs.Runs.{runs_at}
use Rattle.family_nodes.proofs.Sets.{get_set_same}
use Rattle.subrequests.proofs.Members as members
use Rattle.subrequests.proofs.Taking as taking
use Rattle.subrequests.proofs.Wholes as wholes
use Rattle.subrequests.proofs.family.Family.fetch_at.Goals as goal

pub returns-clause-steps : goal.returns-clause-steps
returns-clause-steps c = λ ps g.
    let f = c.args.self.now in
    let site = g.site.now in
    let w = world_in ps g shipped in
    let nodes = f.nodes in
    let at = c.args.at in
    let old = c.node_mut-node.result.now in
    let new = c.fetches.new.node in
    let is = c.in_ok-fetches.ensures in
    let there = wholes.here_is may_fetch nodes at old c.requires.there c.node_mut-node.ensures.value in
    let goes_on = wholes.open_is may_fetch f.order nodes at c.requires.whole c.requires.there in
    wholes.both_ways c.shows_the_same.ensures ps g f _ 0 (wholes.as_many nodes at new)
    (λ tree texts. members.worked c.shows_the_same.ensures w ps site f.main f.order nodes texts at old there c.requires.whole goes_on c.requires.seated tree f.vars new is.node is.place
    (is.acts w ps site f.main (texts at) f.vars))
    (λ trees. members.set_files trees nodes at old new there (λ reads. taking.same_file trees old new is.start is.file))

pub returns-clause-whole : goal.returns-clause-whole
returns-clause-whole c =
    let f = c.args.self.now in
    let is = c.in_ok-fetches.ensures in
    members.set_sound f.order f.order f.nodes c.args.at c.node_mut-node.result.now c.fetches.new.node
    (wholes.here_is may_fetch f.nodes c.args.at c.node_mut-node.result.now c.requires.there c.node_mut-node.ensures.value) c.requires.whole c.requires.whole.well refl (λ j. refl) is.node.over
    (ap is_captured is.place) is.node.parent

pub returns-clause-rests : goal.returns-clause-rests
returns-clause-rests c =
    let f = c.args.self.now in
    let old = c.node_mut-node.result.now in
    let new = c.fetches.new.node in
    let there = wholes.here_is may_fetch f.nodes c.args.at old c.requires.there c.node_mut-node.ensures.value in
    ap (runs_at f.order c.args.at) (get_set_same f.nodes c.args.at new old there) ∙ wholes.reads_rest f.order c.args.at new c.in_ok-fetches.ensures.reads
