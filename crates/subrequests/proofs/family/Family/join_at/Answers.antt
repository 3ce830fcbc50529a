use Rattle.std.proofs.Common.{◌≡◌, ◌+◌, length, set, sym, subst}
use Rattle.request_meaning.specs.Laws.{shipped}
use Rattle.node_line.specs.request_phases.Rounds.{world_in}
use Rattle.acts.specs.Vars.{Vars}
use Rattle.ngx_variables.specs.declared.request.Main.{Main}
use Rattle.node_line.specs.node_turn.declared.node.Node.{Node}
use Rattle.node_line.specs.Stances.{Opening}
use Rattle.node_seats.specs.Seats.{seen}
use Rattle.node_seats.specs.Joining.{AreInner}
use Rattle.subrequests.specs.Families.{IsSound, texts_of}
use Rattle.subrequests.specs.Moved.{SameTexts}
use Rattle.subrequests.proofs.Joins as joining
use Rattle.subrequests.proofs.Wholes as wholes
use Rattle.subrequests.proofs.family.Family.join_at.Goals as goal

pub node_mut-requires : goal.node_mut-requires
node_mut-requires c =
    let f = c.args.self.now in
    let h = c.join_all.new.self in
    let all = c.in_ok-join_all.ensures in
    let inner = subst (AreInner f.nodes c.args.at) (sym c.as_slice-2.ensures.value) (subst (λ ns. AreInner ns c.args.at c.in_ok-inner.inner.items) c.as_slice.ensures.value c.in_ok-inner.ensures) in
    joining.is_there f.order h.order f.nodes h.nodes c.args.at
    (joining.as_joined f.order h.order f.nodes h.nodes c.args.at c.as_slice-2.result.now c.requires.there c.requires.whole c.requires.shown inner all.joins all.whole)

pub returns-clause-steps : goal.returns-clause-steps
returns-clause-steps c = λ ps g.
    let f = c.args.self.now in
    let h = c.join_all.new.self in
    let site = g.site.now in
    let w = world_in ps g shipped in
    let at = c.args.at in
    let all = c.in_ok-join_all.ensures in
    let inner = subst (AreInner f.nodes c.args.at) (sym c.as_slice-2.ensures.value) (subst (λ ns. AreInner ns c.args.at c.in_ok-inner.inner.items) c.as_slice.ensures.value c.in_ok-inner.ensures) in
    let r = joining.as_joined f.order h.order f.nodes h.nodes at c.as_slice-2.result.now c.requires.there c.requires.whole c.requires.shown inner all.joins all.whole in
    let new = c.put_row.new.node in
    let is = joining.put_is f.order h.order f.nodes h.nodes at r c.node_mut.result.now new c.node_mut.ensures.value c.put_row.ensures in
    wholes.both_ways c.shows_the_same.ensures ps g f _ 0 (subst (λ (n : Node). length (set h.nodes at n) ≡ length f.nodes + 0) (sym is) (joining.many f.order h.order f.nodes h.nodes at r))
    (λ tree texts. subst (λ (m : Main). Opening w tree 0 (seen w ps site f.main f.order f.nodes texts) f.vars (seen w ps site m h.order (set h.nodes at new) texts) h.vars) (sym all.others.0)
    (subst (λ (v : Vars). Opening w tree 0 (seen w ps site f.main f.order f.nodes texts) f.vars (seen w ps site f.main h.order (set h.nodes at new) texts) v) (sym all.others.1)
    (subst (λ (n : Node). Opening w tree 0 (seen w ps site f.main f.order f.nodes texts) f.vars (seen w ps site f.main h.order (set h.nodes at n) texts) f.vars) (sym is)
    (joining.opening f.order h.order f.nodes h.nodes at r w ps site f.main texts tree f.vars))))
    (λ trees. subst (λ (n : Node). SameTexts (set h.nodes at n) (texts_of trees f.nodes) (texts_of trees (set h.nodes at n))) (sym is) (joining.texts_are f.order h.order f.nodes h.nodes at r trees))

pub returns-clause-whole : goal.returns-clause-whole
returns-clause-whole c =
    let f = c.args.self.now in
    let h = c.join_all.new.self in
    let at = c.args.at in
    let all = c.in_ok-join_all.ensures in
    let inner = subst (AreInner f.nodes c.args.at) (sym c.as_slice-2.ensures.value) (subst (λ ns. AreInner ns c.args.at c.in_ok-inner.inner.items) c.as_slice.ensures.value c.in_ok-inner.ensures) in
    let r = joining.as_joined f.order h.order f.nodes h.nodes at c.as_slice-2.result.now c.requires.there c.requires.whole c.requires.shown inner all.joins all.whole in
    let is = joining.put_is f.order h.order f.nodes h.nodes at r c.node_mut.result.now c.put_row.new.node c.node_mut.ensures.value c.put_row.ensures in
    subst (λ (n : Node). IsSound h.order (set h.nodes at n)) (sym is) (joining.whole f.order h.order f.nodes h.nodes at r)
