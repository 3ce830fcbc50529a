use Rattle.std.proofs.Common.{true, set, refl, sym, ap, ◌∙◌, subst}
use Rattle.request_meaning.specs.Laws.{shipped}
use Rattle.node_line.specs.request_phases.Rounds.{world_in}
use Rattle.postpone_filter.specs.Row.{Row, is_open}
use Rattle.node_line.specs.node_turn.Stages.{is_ending}
use Rattle.node_seats.specs.Seats.{is_captured, seen}
use Rattle.node_line.specs.node_turn.declared.node.Node.{Node}
use Rattle.node_line.specs.Stances.{Opening}
use Rattle.subrequests.proofs.Members as members
use Rattle.subrequests.proofs.Wholes as wholes
use Rattle.subrequests.proofs.family.Family.close_at.Goals as goal

pub returns-clause-steps : goal.returns-clause-steps
returns-clause-steps c = λ ps g.
    let f = c.args.self.now in
    let site = g.site.now in
    let w = world_in ps g shipped in
    let nodes = f.nodes in
    let at = c.args.at in
    let old = c.node_mut-node.result.now in
    let new : Node = record old { over = true; stage = c.put.new.slot } in
    let there = wholes.here_is is_ending nodes at old c.requires.there c.node_mut-node.ensures.value in
    let goes_on = wholes.open_is is_ending f.order nodes at c.requires.whole c.requires.there in
    let done = wholes.stage_is is_ending nodes at old c.requires.there there in
    wholes.both_ways c.shows_the_same.ensures ps g f _ 0 (wholes.as_many nodes at new)
    (λ tree texts.
    let free = ap is_captured (wholes.in_row nodes at old c.requires.row there) in
    let act = wholes.ended_act w ps site f.main old (texts at) done in
    subst (λ (r : Row). Opening w tree 0 (seen w ps site f.main f.order nodes texts) f.vars (seen w ps site f.main r (set nodes at new) texts) f.vars) (sym c.end.ensures.row)
    (members.over c.shows_the_same.ensures w ps site f.main f.order nodes texts at old there c.requires.whole goes_on c.requires.seated tree f.vars act.0 (set nodes at new) (wholes.in_row nodes at old c.requires.row there) act.1 c.requires.child
    (members.others_same c.shows_the_same.ensures w ps site f.main f.order nodes texts at old there c.requires.whole goes_on c.requires.seated tree f.vars (set nodes at new) free (members.others_kept nodes at new) (members.free_then nodes at old new there free))
    (λ j. ap (λ (r : Row). is_open j r.pieces) (sym c.end.ensures.row) ∙ c.end.ensures.opened j)))
    (λ trees. members.set_files trees nodes at old new there (λ reads. members.same_text trees old new (refl, refl)))

pub returns-clause-whole : goal.returns-clause-whole
returns-clause-whole c =
    let f = c.args.self.now in
    let old = c.node_mut-node.result.now in
    members.over_sound f.order c.end.new.self f.nodes c.args.at old (record old { over = true; stage = c.put.new.slot }) (wholes.here_is is_ending f.nodes c.args.at old c.requires.there c.node_mut-node.ensures.value)
    c.requires.whole (members.ended_well f.order c.end.new.self c.args.at c.requires.whole.well c.requires.child c.end.ensures.row) (ap (λ (r : Row). r.nodes) c.end.ensures.row) c.end.ensures.opened refl refl refl
