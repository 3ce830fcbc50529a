use Rattle.std.proofs.Common.{◌≡◌, ◌-◌, ◌∷◌, ◌++◌, ℕ, [], Global, Some, Vec, length, slice_get, sym, ap, ◌∙◌, subst}
use Rattle.std.proofs.lemmas.Bool.{eqb-true}
use Rattle.std.proofs.lemmas.List.{nil_from_length}
use Rattle.node_line.specs.node_turn.declared.node.Node.{Node}
use Rattle.node_seats.specs.Joining.{AreClear, IsClearBy, number_with, numbers_from}
use Rattle.node_seats.specs.Seats.{stub_in}
use Rattle.node_seats.proofs.Above.{some_same}
use Rattle.node_seats.proofs.Numbered as numbered
use Rattle.node_seats.proofs.Walks as walks
use Rattle.node_seats.proofs.joining.+inner.Goals as goal
use Rattle.node_seats.proofs.joining.+inner.Goals.{put_inner_node-then-is_bare+else-has_text+else-not-waits_well+in_ok-put_inner_nodes, put_inner_node-else-is_bare, put_inner_nodes-then-is_inner_in+in_ok-put_inner_node, put_inner_nodes-else-is_inner_in}

items_are : (a b : Vec ℕ Global) → a ≡ b → a.items ≡ b.items
items_are a b e = ap (λ (v : Vec ℕ Global). v.items) e

pub put_inner_node-returns-clause-numbers : goal.put_inner_node-returns-clause-numbers
put_inner_node-returns-clause-numbers t c = λ n there.
    let nodes = c.args.nodes.now in
    let m = c.in-Some.node.now in
    let at = c.args.at in
    let is = c.in-Some.ensures.lookup in
    let below = numbers_from nodes c.args.levels in
    let old = c.args.list.now.items in
    let list = c.if-is_bare.list in
    let last = c.in_ok-push.ensures.items in
    let here : slice_get nodes at ≡ Some m = walks.there_some nodes at m is.3.0 is.1 in
    let so : c.push.new.self.items ≡ old ++ number_with below at m (stub_in m.place) = elim c.if-is_bare.branch [
      | put_inner_node-then-is_bare+else-has_text+else-not-waits_well+in_ok-put_inner_nodes w ↦
          numbered.with_number below at m old list.items c.push.new.self.items (stub_in m.place) (sym c.is_bare.ensures ∙ w.if-is_bare.true) (items_are list w.put_inner_nodes.new.list w.list-is ∙ w.in_ok-put_inner_nodes.ensures.numbers m here) last
      | put_inner_node-else-is_bare w ↦
          numbered.alone_number below at m old c.push.new.self.items (stub_in m.place) (sym c.is_bare.ensures ∙ w.if-is_bare.false) (last ∙ ap (λ z. z ++ at ∷ []) (items_are list c.args.list.now w.list-is))
    ] in
    subst (λ (x : Node). c.push.new.self.items ≡ old ++ number_with below at x (stub_in x.place)) (some_same m n (sym here ∙ there)) so

pub put_inner_node-returns-clause-clear : goal.put_inner_node-returns-clause-clear
put_inner_node-returns-clause-clear t c = λ n there.
    let nodes = c.args.nodes.now in
    let m = c.in-Some.node.now in
    let at = c.args.at in
    let is = c.in-Some.ensures.lookup in
    let below = AreClear nodes c.args.levels in
    let here : slice_get nodes at ≡ Some m = walks.there_some nodes at m is.3.0 is.1 in
    let before : m.before ≡ [] = nil_from_length m.before (eqb-true (length m.before) 0 (sym c.is_empty.ensures ∙ c.if-not-is_empty.false)) in
    let so : IsClearBy below at m (stub_in m.place) = elim c.if-is_bare.branch [
      | put_inner_node-then-is_bare+else-has_text+else-not-waits_well+in_ok-put_inner_nodes w ↦
          numbered.bare_clear below at m (stub_in m.place) (sym c.is_bare.ensures ∙ w.if-is_bare.true) before (sym w.has_text.ensures ∙ w.if-has_text.false) (sym w.waits_well.ensures ∙ w.if-not-waits_well.false) (w.in_ok-put_inner_nodes.ensures.clear m here)
      | put_inner_node-else-is_bare w ↦ numbered.stub_clear below at m (stub_in m.place) (sym c.is_bare.ensures ∙ w.if-is_bare.false) before
    ] in
    subst (λ (x : Node). IsClearBy below at x (stub_in x.place)) (some_same m n (sym here ∙ there)) so

pub put_inner_nodes-returns-clause-numbers : goal.put_inner_nodes-returns-clause-numbers
put_inner_nodes-returns-clause-numbers t c =
    λ n there.
    numbered.all_numbers c.args.nodes.now c.args.at n c.args.levels c.loop-child.child c.args.list.now.items c.loop-child.list.items c.if-levels-eq0.false c.if-nodes.false c.loop-child-test.false (c.loop-child.invariant.numbers n there)

pub put_inner_nodes-returns-clause-clear : goal.put_inner_nodes-returns-clause-clear
put_inner_nodes-returns-clause-clear t c =
    λ n there. numbered.all_clear c.args.nodes.now c.args.at n c.args.levels c.loop-child.child c.if-levels-eq0.false c.loop-child-test.false (c.loop-child.invariant.clear n there)

pub put_inner_nodes-loop-child-init : goal.put_inner_nodes-loop-child-init
put_inner_nodes-loop-child-init t c =
    let nodes = c.args.nodes.now in
    record {
      numbers = λ n there. numbered.no_number nodes c.args.at n (numbers_from nodes (c.args.levels - 1)) c.args.list.now.items;
      clear = λ n there. numbered.none_passed nodes c.args.at n (AreClear nodes (c.args.levels - 1));
    }

pub put_inner_nodes-loop-child-preserved : goal.put_inner_nodes-loop-child-preserved
put_inner_nodes-loop-child-preserved t c =
    let nodes = c.args.nodes.now in
    let below = numbers_from nodes (c.args.levels - 1) in
    let clear = AreClear nodes (c.args.levels - 1) in
    let child = c.loop-child.child in
    let old = c.args.list.now.items in
    let was = c.loop-child.list in
    let list = c.if-is_inner_in.list in
    elim c.if-is_inner_in.branch [
      | put_inner_nodes-then-is_inner_in+in_ok-put_inner_node w ↦ record {
        numbers = λ n there.
            items_are list w.put_inner_node.new.list w.list-is
            ∙ numbered.one_number nodes c.args.at n below child old was.items w.put_inner_node.new.list.items there (sym c.is_inner_in.ensures ∙ w.if-is_inner_in.true) (c.loop-child.invariant.numbers n there) w.in_ok-put_inner_node.ensures.numbers;
        clear = λ n there. numbered.one_passed nodes c.args.at n clear child (c.loop-child.invariant.clear n there) w.in_ok-put_inner_node.ensures.clear;
      }
      | put_inner_nodes-else-is_inner_in w ↦ record {
        numbers = λ n there.
            items_are list was w.list-is ∙ numbered.same_numbers nodes c.args.at n below child old was.items there (sym c.is_inner_in.ensures ∙ w.if-is_inner_in.false) (c.loop-child.invariant.numbers n there);
        clear = λ n there. numbered.same_passed nodes c.args.at n clear child there (sym c.is_inner_in.ensures ∙ w.if-is_inner_in.false) (c.loop-child.invariant.clear n there);
      }
    ]
