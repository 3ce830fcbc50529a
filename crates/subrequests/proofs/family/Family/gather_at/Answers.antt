use Rattle.std.proofs.Common.{set, refl, sym, ap, subst, ◌∙◌}
use Rattle.request_meaning.specs.Laws.{shipped}
use Rattle.node_line.specs.request_phases.Rounds.{world_in}
use Rattle.node_line.specs.node_turn.Stages.{is_serving}
use Rattle.node_line.specs.node_turn.declared.node.Node.{Node}
use Rattle.node_line.specs.Stances.{Opening}
use Rattle.node_seats.specs.Seats.{is_captured, seen}
use Rattle.subrequests.specs.Families.{gathering_place, stub_at}
use Rattle.subrequests.proofs.Including as including
use Rattle.subrequests.proofs.Joins as joining
use Rattle.subrequests.proofs.Members as members
use Rattle.subrequests.proofs.Wholes as wholes
use Rattle.subrequests.proofs.family.Family.gather_at.Goals as goal

pub returns-clause-steps : goal.returns-clause-steps
returns-clause-steps c = λ ps g.
    let f = c.args.self.now in
    let site = g.site.now in
    let w = world_in ps g shipped in
    let nodes = f.nodes in
    let at = c.args.at in
    let old = c.node_mut.result.now in
    let new = c.put_gathering.new.node in
    let there = wholes.here_is is_serving nodes at old c.requires.there c.node_mut.ensures.value in
    let none = including.none_found nodes at 0 c.next_inner_of.result c.next_inner_of.ensures (sym c.is_some.ensures ∙ c.if-is_some.false) in
    let gathers = joining.gathering old.place (sym (ap stub_at there) ∙ c.requires.stub) in
    wholes.both_ways c.shows_the_same.ensures ps g f _ 0 (wholes.as_many nodes at new)
    (λ tree texts. subst (λ (n : Node). Opening w tree 0 (seen w ps site f.main f.order nodes texts) f.vars (seen w ps site f.main f.order (set nodes at n) texts) f.vars) (sym c.put_gathering.ensures)
    (joining.same_step c.shows_the_same.ensures w ps site f.main f.order nodes texts at old (gathering_place old.place) there c.requires.whole c.requires.seated none gathers tree f.vars))
    (λ trees. members.set_files trees nodes at old new there (λ reads. members.same_text trees old new (ap (λ (n : Node). n.ask) c.put_gathering.ensures, ap (λ (n : Node). n.start) c.put_gathering.ensures)))

pub returns-clause-whole : goal.returns-clause-whole
returns-clause-whole c =
    let f = c.args.self.now in
    let nodes = f.nodes in
    let at = c.args.at in
    let old = c.node_mut.result.now in
    let there = wholes.here_is is_serving nodes at old c.requires.there c.node_mut.ensures.value in
    let gathers = joining.gathering old.place (sym (ap stub_at there) ∙ c.requires.stub) in
    members.set_sound f.order f.order nodes at old c.put_gathering.new.node there c.requires.whole c.requires.whole.well refl (λ j. refl)
    (ap (λ (n : Node). n.over) c.put_gathering.ensures) (ap (λ (n : Node). is_captured n.place) c.put_gathering.ensures ∙ gathers.free_then ∙ sym gathers.free) (ap (λ (n : Node). n.parent) c.put_gathering.ensures)
