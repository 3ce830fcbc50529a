use Rattle.std.proofs.Common.{◌≡◌, ◌≢◌, ◌+◌, suc, [], length, set, None, refl, sym, ap, ◌∙◌, subst, arith}
use Rattle.postpone_filter.specs.Row.{Row}
use Rattle.node_line.specs.node_turn.declared.node.Node.{Node}
use Rattle.node_seats.specs.Seats.{is_captured}
use Rattle.subrequests.specs.Families.{IsSound}
use Rattle.subrequests.specs.Moved.{IsInner}
use Rattle.subrequests.proofs.Members as members
use Rattle.family_nodes.proofs.Sets.{get_set_same, length_set}
use Rattle.subrequests.proofs.Wholes as wholes
use Rattle.subrequests.proofs.family.Family.inner_at.Goals as goal

pub returns-clause-opens : goal.returns-clause-opens
returns-clause-opens c = λ n is.
    let f = c.args.self.now in
    let nodes = f.nodes in
    let at = c.args.at in
    let here = c.node_mut.result.now in
    let new = c.put_inner.new.node in
    let there = wholes.not_over nodes at here c.requires.there c.node_mut.ensures.value in
    let same : here ≡ n = wholes.some_same here n (sym there ∙ is) in
    let looked : c.node_at.result.now ≡ here = wholes.some_same c.node_at.result.now here (sym (wholes.not_over nodes at c.node_at.result.now c.requires.there c.node_at.ensures) ∙ there) in
    subst (λ (m : Node). IsInner at c.args.child f (record f { order = c.add_child.new.self; nodes = c.push_child.new.nodes }) m) same
    (record {
      free = subst (λ (x : Node). x.asks ≡ None) looked (c.may_ask.ensures.free c.if-not-may_ask.false);
      deep = subst (λ (x : Node). x.left ≢ 0) looked (c.may_ask.ensures.deep c.if-not-may_ask.false);
      row = c.in_ok-id.ensures.row;
      opening = new;
      before = c.in_ok-before.before;
      opens = c.in_ok-before.ensures.opened;
      pushed = c.in_ok-push_child.ensures new (get_set_same nodes at new here there);
    })

pub returns-clause-whole : goal.returns-clause-whole
returns-clause-whole c =
    let f = c.args.self.now in
    let nodes = f.nodes in
    let at = c.args.at in
    let here = c.node_mut.result.now in
    let new = c.put_inner.new.node in
    let there = wholes.not_over nodes at here c.requires.there c.node_mut.ensures.value in
    let pushed = c.in_ok-push_child.ensures new (get_set_same nodes at new here there) in
    let withheld = members.set_sound f.order f.order nodes at here new there c.requires.whole c.requires.whole.well refl (λ j. refl) (ap (λ (x : Node). x.over) c.in_ok-before.ensures.opened.is) (ap (λ (x : Node). is_captured x.place) c.in_ok-before.ensures.opened.is ∙ members.text_kept [] here.place) (ap (λ (x : Node). x.parent) c.in_ok-before.ensures.opened.is) in
    let size : length (set nodes at new) ≡ length nodes = length_set nodes at new in
    let few = c.may_ask.ensures.few c.if-not-may_ask.false in
    subst (IsSound c.add_child.new.self) (sym pushed.items)
    (members.open_sound f.order c.add_child.new.self (set nodes at new) pushed.member withheld
    (members.child_well f.order c.add_child.new.self at c.requires.whole.well c.in_ok-id.ensures.row)
    (ap (λ (r : Row). r.nodes) c.in_ok-id.ensures.row ∙ (let e : f.order.nodes + 1 ≡ suc f.order.nodes = omega arith in e)) c.in_ok-id.ensures.opened pushed.over
    (omega (arith, size, few, c.len.ensures)) (λ e. let parent = pushed.parent in let lower = members.there_less nodes at here there in omega (arith, parent, lower, size)))
