use Rattle.request_meaning.specs.Laws.{shipped}
use Rattle.node_line.specs.request_phases.Rounds.{world_in}
use Rattle.node_line.specs.node_turn.Stages.{is_placing}
use Rattle.subrequests.proofs.Members as members
use Rattle.subrequests.proofs.Wholes as wholes
use Rattle.subrequests.proofs.family.Family.come_at.Goals as goal

pub returns-clause-steps : goal.returns-clause-steps
returns-clause-steps c = λ ps g.
    let f = c.args.self.now in
    let site = g.site.now in
    let w = world_in ps g shipped in
    let nodes = f.nodes in
    let at = c.args.at in
    let old = c.node_mut-node.result.now in
    let new = c.comes.new.node in
    let is = c.in_ok-comes.ensures in
    let there = wholes.here_is is_placing nodes at old c.requires.there c.node_mut-node.ensures.value in
    let goes_on = wholes.open_is is_placing f.order nodes at c.requires.whole c.requires.there in
    wholes.both_ways c.shows_the_same.ensures ps g f _ 0 (wholes.as_many nodes at new)
    (λ tree texts. members.came c.shows_the_same.ensures w ps site f.main f.order nodes texts at old there c.requires.whole goes_on c.requires.seated tree f.vars c.comes.new.order new is.node
    (wholes.not_in_row nodes at old c.requires.apart there) is.opened (members.seen_well w ps site f.main f.order nodes texts c.requires.whole) is.came)
    (λ trees. members.set_files trees nodes at old new there (λ reads. members.same_text trees old new is.file))

pub returns-clause-whole : goal.returns-clause-whole
returns-clause-whole c =
    let f = c.args.self.now in
    let nodes = f.nodes in
    let old = c.node_mut-node.result.now in
    let is = c.in_ok-comes.ensures in
    let there = wholes.here_is is_placing nodes c.args.at old c.requires.there c.node_mut-node.ensures.value in
    members.set_sound f.order c.comes.new.order nodes c.args.at old c.comes.new.node there c.requires.whole
    (members.came_well f.order c.comes.new.order c.args.at old c.comes.new.node c.requires.whole.well is.came) (members.came_nodes f.order c.comes.new.order c.args.at old c.comes.new.node is.came) is.opened is.node.over (members.came_kept f.order c.comes.new.order c.args.at old c.comes.new.node is.came) is.node.parent
