use Rattle.std.proofs.Common.{◌≡◌, ◌-◌, Some, slice_get, sym, ap, ◌∙◌, subst}
use Rattle.request_meaning.specs.Replies.{script}
use Rattle.node_line.specs.ssi_exec.Scenes.{child_seen}
use Rattle.node_line.specs.node_turn.Nodes.{of_method}
use Rattle.node_line.specs.node_turn.Stages.{main_of}
use Rattle.node_line.specs.node_turn.declared.node.Node.{Node}
use Rattle.family_nodes.proofs.Sets as sets
use Rattle.subrequests.proofs.Wholes as wholes
use Rattle.subrequests.proofs.child.push_child.Goals as goal

pub returns : goal.returns
returns c = λ n is.
    let node = c.in-Some.node.now in
    let found = c.in-Some.ensures.lookup in
    let there = subst (λ ns. slice_get ns c.args.at ≡ Some node) c.as_slice.ensures.value (sets.there_some c.as_slice.result.now c.args.at node found.3.0 found.1) in
    let same : node ≡ n = wholes.some_same node n (sym there ∙ is) in
    let made = c.child_node.ensures in
    let left = c.child_node.result.left in
    record {
      member = c.child_node.result;
      items = c.in_ok-push.ensures.items;
      left = made.left ∙ (c.saturating_sub-left.ensures ∙ ap (λ (x : Node). x.left - 1) same);
      over = made.over;
      goes = made.place;
      before = made.before;
      parent = made.parent;
      asks = made.asks;
      fresh = made.fresh;
      acts = λ w patterns site main text.
          made.acts w patterns site main text
          ∙ (ap (λ l. script w l (child_seen (of_method c.in_ok-method.method main) c.args.child)) (sym made.left)
          ∙ (ap (λ m. script w left (child_seen (of_method m main) c.args.child)) c.in_ok-method.ensures ∙ ap (λ (x : Node). script w left (child_seen (main_of main x) c.args.child)) same));
    }
