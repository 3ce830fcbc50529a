use Rattle.std.proofs.Common.{sym, ◌∙◌}
use Rattle.request_meaning.specs.Laws.{shipped}
use Rattle.node_line.specs.request_phases.Rounds.{world_in}
use Rattle.node_line.specs.node_turn.Stages.{is_ending}
use Rattle.subrequests.proofs.Including as including
use Rattle.subrequests.proofs.Returns as returning
use Rattle.subrequests.proofs.Wholes as wholes
use Rattle.subrequests.proofs.family.Family.return_at.Goals as goal

pub returns-clause-steps : goal.returns-clause-steps
returns-clause-steps c = λ ps g.
    let f = c.args.self.now in
    let nodes = f.nodes in
    let at = c.args.at in
    let site = g.site.now in
    let w = world_in ps g shipped in
    let old = c.node_mut-node.result.now in
    let p = c.node_mut.result.now in
    let there = wholes.here_is is_ending nodes at old c.requires.there c.node_mut-node.ensures.value in
    let is = returning.returns_is f.order nodes at old c.taken.new.place p c.put_reply.new.node c.in_ok-text.text there c.requires.whole c.requires.there c.requires.seated (including.none_found nodes at 0 c.next_inner_of.result c.next_inner_of.ensures (sym c.is_some.ensures ∙ c.if-is_some.false)) (sym c.is_inner_at.ensures ∙ c.if-is_inner_at.false) c.in_ok-text.ensures c.node_mut.ensures.value (returning.as_replied c.in_ok-text.text p c.put_reply.new.node c.in_ok-put_reply.ensures) in
    let gone = returning.gone_of old c.taken.new.place in
    wholes.both_ways c.shows_the_same.ensures ps g f _ 0 (returning.as_many f.order nodes at old gone p c.put_reply.new.node c.in_ok-text.text is)
    (λ tree texts. returning.opening f.order nodes at old gone p c.put_reply.new.node c.in_ok-text.text is c.shows_the_same.ensures w ps site f.main tree f.vars c.requires.whole c.requires.child c.in_ok-put_reply.ensures texts c.end.new.self c.end.ensures.row c.end.ensures.opened)
    (λ trees. returning.same_texts f.order nodes at old gone p c.put_reply.new.node c.in_ok-text.text is trees)

pub returns-clause-whole : goal.returns-clause-whole
returns-clause-whole c =
    let f = c.args.self.now in
    let nodes = f.nodes in
    let at = c.args.at in
    let old = c.node_mut-node.result.now in
    let p = c.node_mut.result.now in
    let there = wholes.here_is is_ending nodes at old c.requires.there c.node_mut-node.ensures.value in
    let is = returning.returns_is f.order nodes at old c.taken.new.place p c.put_reply.new.node c.in_ok-text.text there c.requires.whole c.requires.there c.requires.seated (including.none_found nodes at 0 c.next_inner_of.result c.next_inner_of.ensures (sym c.is_some.ensures ∙ c.if-is_some.false)) (sym c.is_inner_at.ensures ∙ c.if-is_inner_at.false) c.in_ok-text.ensures c.node_mut.ensures.value (returning.as_replied c.in_ok-text.text p c.put_reply.new.node c.in_ok-put_reply.ensures) in
    returning.whole f.order nodes at old (returning.gone_of old c.taken.new.place) p c.put_reply.new.node c.in_ok-text.text is c.end.new.self c.requires.whole c.requires.child c.end.ensures.row c.end.ensures.opened

pub returns-clause-ended : goal.returns-clause-ended
returns-clause-ended c =
    let f = c.args.self.now in
    let nodes = f.nodes in
    let at = c.args.at in
    let old = c.node_mut-node.result.now in
    let p = c.node_mut.result.now in
    let there = wholes.here_is is_ending nodes at old c.requires.there c.node_mut-node.ensures.value in
    let is = returning.returns_is f.order nodes at old c.taken.new.place p c.put_reply.new.node c.in_ok-text.text there c.requires.whole c.requires.there c.requires.seated (including.none_found nodes at 0 c.next_inner_of.result c.next_inner_of.ensures (sym c.is_some.ensures ∙ c.if-is_some.false)) (sym c.is_inner_at.ensures ∙ c.if-is_inner_at.false) c.in_ok-text.ensures c.node_mut.ensures.value (returning.as_replied c.in_ok-text.text p c.put_reply.new.node c.in_ok-put_reply.ensures) in
    returning.is_over f.order nodes at old (returning.gone_of old c.taken.new.place) p c.put_reply.new.node c.in_ok-text.text is

pub include_at-requires-clause-bare : goal.include_at-requires-clause-bare
include_at-requires-clause-bare c = including.none_found c.args.self.now.nodes c.args.at 0 c.next_inner_of.result c.next_inner_of.ensures (sym c.is_some.ensures ∙ c.if-is_some.false)

pub include_at-requires-clause-inner : goal.include_at-requires-clause-inner
include_at-requires-clause-inner c = sym c.is_inner_at.ensures ∙ c.if-is_inner_at.true
