use Rattle.std.proofs.Common.{set, refl, sym, ap, ◌∙◌, arith}
use Rattle.request_meaning.specs.Laws.{shipped}
use Rattle.node_line.specs.request_phases.Rounds.{world_in}
use Rattle.node_seats.specs.Seats.{doing_by, is_captured, most_levels, seen, stance_in}
use Rattle.node_line.specs.node_turn.declared.node.Node.{Node}
use Rattle.subrequests.proofs.Members as members
use Rattle.node_line.proofs.Steps as steps
use Rattle.family_nodes.proofs.Sets as sets
use Rattle.subrequests.proofs.Wholes as wholes
use Rattle.subrequests.proofs.family.Family.tell.Goals as goal

pub returns-then-at-len-clause-steps : goal.returns-then-at-len-clause-steps
returns-then-at-len-clause-steps c = λ ps g.
    let f = c.args.self.now in
    let site = g.site.now in
    let w = world_in ps g shipped in
    let nodes = f.nodes in
    let at = c.args.at in
    let old = c.node_mut.result.now in
    let new = c.put_end.new.node in
    let there = sets.there_some nodes at old (omega (arith, c.if-at-len.true, c.len.ensures)) c.node_mut.ensures.value in
    wholes.both_ways c.shows_the_same.ensures ps g f _ 0 (wholes.as_many nodes at new)
    (λ tree texts. steps.alike (c.shows_the_same.ensures.others (seen w ps site f.main f.order nodes texts) (stance_in (doing_by w ps site f.main texts) (set nodes at new) most_levels)
    (λ j e. members.told_same w ps site f.main nodes texts at old new.children new.waits j there ∙ ap (λ n. stance_in (doing_by w ps site f.main texts) (set nodes at n) most_levels j) (sym c.put_end.ensures))) steps.stays)
    (λ trees. members.set_files trees nodes at old new there (λ reads. members.same_text trees old new (ap (λ (n : Node). n.ask) c.put_end.ensures, ap (λ (n : Node). n.start) c.put_end.ensures)))

pub returns-then-at-len-clause-whole : goal.returns-then-at-len-clause-whole
returns-then-at-len-clause-whole c =
    let f = c.args.self.now in
    members.set_sound f.order f.order f.nodes c.args.at c.node_mut.result.now c.put_end.new.node
    (sets.there_some f.nodes c.args.at c.node_mut.result.now (omega (arith, c.if-at-len.true, c.len.ensures)) c.node_mut.ensures.value) c.requires.whole c.requires.whole.well refl (λ j. refl)
    (ap (λ (n : Node). n.over) c.put_end.ensures) (ap (λ (n : Node). is_captured n.place) c.put_end.ensures) (ap (λ (n : Node). n.parent) c.put_end.ensures)

pub returns-else-at-len-clause-steps : goal.returns-else-at-len-clause-steps
returns-else-at-len-clause-steps c = λ patterns g. wholes.no_steps patterns g c.args.self.now
