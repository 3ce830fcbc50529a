use Rattle.std.proofs.Common.{set, Some, ap, ◌∙◌}
use Rattle.request_meaning.specs.Laws.{shipped}
use Rattle.node_line.specs.request_phases.Rounds.{world_in}
use Rattle.postpone_filter.specs.Row.{Row}
use Rattle.node_line.specs.node_turn.Stages.{is_ending}
use Rattle.node_line.specs.node_turn.declared.node.Node.{Node}
use Rattle.subrequests.specs.Families.{goes_on_at}
use Rattle.node_seats.specs.Seats.{is_captured}
use Rattle.subrequests.proofs.Members as members
use Rattle.family_nodes.proofs.Sets.{get_set_same}
use Rattle.subrequests.proofs.Wholes as wholes
use Rattle.subrequests.proofs.family.Family.decide_at.Goals as goal

pub returns-clause-steps : goal.returns-clause-steps
returns-clause-steps c = λ ps g.
    let f = c.args.self.now in
    let site = g.site.now in
    let w = world_in ps g shipped in
    let nodes = f.nodes in
    let at = c.args.at in
    let old = c.node_mut-node.result.now in
    let new = c.decides.new.node in
    let is = c.in_ok-decides.ensures in
    let there = wholes.here_is is_ending nodes at old c.requires.there c.node_mut-node.ensures.value in
    let goes_on = wholes.open_is is_ending f.order nodes at c.requires.whole c.requires.there in
    let done = wholes.stage_is is_ending nodes at old c.requires.there there in
    wholes.both_ways c.shows_the_same.ensures ps g f _ 0 (wholes.as_many nodes at new)
    (λ tree texts.
    let free = ap is_captured is.decided.is.place in
    let kept = ap (λ (n : Node). is_captured n.place) is.decided.node in
    let act = wholes.ended_act w ps site f.main old (texts at) done in
    members.decided c.shows_the_same.ensures w ps site f.main f.order nodes texts at old there c.requires.whole goes_on c.requires.seated tree f.vars act.0 c.decides.new.order (set nodes at new) new is.decided act.1 c.requires.child
    (members.others_same c.shows_the_same.ensures w ps site f.main f.order nodes texts at old there c.requires.whole goes_on c.requires.seated tree f.vars (set nodes at new) free (members.others_kept nodes at new) (members.free_then nodes at old new there (kept ∙ free))) is.opened)
    (λ trees. members.set_files trees nodes at old new there (λ reads. members.same_text trees old new (ap (λ (n : Node). n.ask) is.decided.node, ap (λ (n : Node). n.start) is.decided.node)))

pub returns-clause-whole : goal.returns-clause-whole
returns-clause-whole c =
    let f = c.args.self.now in
    let old = c.node_mut-node.result.now in
    let is = c.in_ok-decides.ensures in
    members.over_sound f.order c.decides.new.order f.nodes c.args.at old c.decides.new.node (wholes.here_is is_ending f.nodes c.args.at old c.requires.there c.node_mut-node.ensures.value)
    c.requires.whole (members.decided_well f.order c.decides.new.order c.args.at old c.decides.new.node c.requires.whole.well c.requires.child is.decided)
    (ap (λ (r : Row). r.nodes) is.decided.row) is.opened (ap (λ (n : Node). n.over) is.decided.node) (ap (λ (n : Node). is_captured n.place) is.decided.node) (ap (λ (n : Node). n.parent) is.decided.node)

pub returns-clause-ended : goal.returns-clause-ended
returns-clause-ended c =
    let f = c.args.self.now in
    let old = c.node_mut-node.result.now in
    let is = c.in_ok-decides.ensures in
    ap goes_on_at (get_set_same f.nodes c.args.at c.decides.new.node old (wholes.here_is is_ending f.nodes c.args.at old c.requires.there c.node_mut-node.ensures.value))
    ∙ ap (λ (n : Node). goes_on_at (Some n)) is.decided.node
