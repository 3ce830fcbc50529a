use Rattle.std.proofs.Common.{◌≡◌, ◌≢◌, ◌+◌, suc, length, set, [], None, Some, refl, sym, ap, ◌∙◌, subst, arith}
use Rattle.postpone_filter.specs.Row.{Row}
use Rattle.node_line.specs.node_turn.declared.node.Node.{Node}
use Rattle.node_seats.specs.Seats.{is_captured}
use Rattle.node_line.specs.node_turn.declared.node.Place.TheVariants.{Captured}
use Rattle.subrequests.specs.Families.{IsPushed, IsSound}
use Rattle.subrequests.specs.Moved.{IsAsking}
use Rattle.subrequests.proofs.Members as members
use Rattle.family_nodes.proofs.Sets.{get_set_same, length_set}
use Rattle.subrequests.proofs.Wholes as wholes
use Rattle.subrequests.proofs.family.Family.ask_at.Goals as goal

pub returns-clause-asks : goal.returns-clause-asks
returns-clause-asks c = λ n is.
    let f = c.args.self.now in
    let nodes = f.nodes in
    let at = c.args.at in
    let here = c.node_mut.result.now in
    let new = c.put_asks.new.node in
    let there = wholes.not_over nodes at here c.requires.there c.node_mut.ensures.value in
    let same : here ≡ n = wholes.some_same here n (sym there ∙ is) in
    let looked : c.node_at.result.now ≡ here = wholes.some_same c.node_at.result.now here (sym (wholes.not_over nodes at c.node_at.result.now c.requires.there c.node_at.ensures) ∙ there) in
    subst (λ (m : Node). IsAsking at c.args.child f (record f { order = c.add_child.new.self; nodes = c.push_child.new.nodes }) m) same
    (record {
      free = subst (λ (x : Node). x.asks ≡ None) looked (c.may_ask.ensures.free c.if-not-may_ask.false);
      deep = subst (λ (x : Node). x.left ≢ 0) looked (c.may_ask.ensures.deep c.if-not-may_ask.false);
      row = c.in_ok-id.ensures.row;
      asking = new;
      asks = c.put_asks.ensures ∙ ap (λ i. record here { children = new.children; asks = Some i }) c.in_ok-id.ensures.child;
      pushed = subst (λ b. IsPushed (set nodes at new) c.push_child.new.nodes at (Captured c.args.child.stub []) b new c.args.child) c.new.ensures (c.in_ok-push_child.ensures new (get_set_same nodes at new here there));
    })

pub returns-clause-whole : goal.returns-clause-whole
returns-clause-whole c =
    let f = c.args.self.now in
    let nodes = f.nodes in
    let at = c.args.at in
    let here = c.node_mut.result.now in
    let new = c.put_asks.new.node in
    let there = wholes.not_over nodes at here c.requires.there c.node_mut.ensures.value in
    let pushed = c.in_ok-push_child.ensures new (get_set_same nodes at new here there) in
    let withheld = members.set_sound f.order f.order nodes at here new there c.requires.whole c.requires.whole.well refl (λ j. refl) (ap (λ (x : Node). x.over) c.put_asks.ensures) (ap (λ (x : Node). is_captured x.place) c.put_asks.ensures) (ap (λ (x : Node). x.parent) c.put_asks.ensures) in
    let size : length (set nodes at new) ≡ length nodes = length_set nodes at new in
    let few = c.may_ask.ensures.few c.if-not-may_ask.false in
    subst (IsSound c.add_child.new.self) (sym pushed.items)
    (members.open_sound f.order c.add_child.new.self (set nodes at new) pushed.member withheld
    (members.child_well f.order c.add_child.new.self at c.requires.whole.well c.in_ok-id.ensures.row)
    (ap (λ (r : Row). r.nodes) c.in_ok-id.ensures.row ∙ (let e : f.order.nodes + 1 ≡ suc f.order.nodes = omega arith in e)) c.in_ok-id.ensures.opened pushed.over
    (omega (arith, size, few, c.len.ensures)) (λ e. let parent = pushed.parent in let lower = members.there_less nodes at here there in omega (arith, parent, lower, size)))
