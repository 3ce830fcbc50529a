use Rattle.node_turn.specs.declared.node.Body.{Body}
use Rattle.std.proofs.Common.{List, ℕ, drop, length, ap, ◌∙◌, sym, subst, arith}
use Rattle.node_turn.specs.Stages.{hand_at, node_act}
use Rattle.node_turn.specs.Nodes.{answer_seen, asked_path, from_source, later, lent, placed_act, stage_act}
use Rattle.node_turn.specs.Turns.{PlacesAs}
use Rattle.node_turn.specs.declared.answered.Answered.{Answered}
use Rattle.node_turn.specs.declared.node.Node.{Node}
use Rattle.node_turn.specs.declared.node.Source.{Source}
use Rattle.node_turn.specs.declared.node.Stage.{Stage}
use Rattle.node_turn.proofs.Placing as placing
use Rattle.node_turn.proofs.turn.withholds.Goals as goal

pub returns-clause-acts : goal.returns-clause-acts
returns-clause-acts c = λ w patterns site main text.
    let n = c.args.node.now in
    let b = c.in-Places.body.value in
    let p = lent main n.phases in
    let path = asked_path n.ask in
    let next = c.advanced-body.result.value in
    let after = c.stage_after.result in
    let act = λ (a : Answered) (page : _) (bytes : List ℕ) (s : Source). placed_act w site p n.left (answer_seen site p a) page bytes (from_source s text) in
    let mid = placing.whole_so w site p n.left (answer_seen site p b.answered) b.page b.bytes b.from next.from (later b text) (omega (arith, c.advanced-body.ensures.from, c.len.ensures, b.within, ap (λ (x : Body). length x.bytes) c.deref.ensures, ap (λ (x : Body). x.from) c.deref-in-Places.ensures)) in
    let moved = ap (λ (a : Answered). act a b.page (drop next.from b.bytes) b.source) (sym c.advanced-body.ensures.others.0)
    ∙ (ap (λ s. act next.answered b.page (drop next.from b.bytes) s) (sym c.advanced-body.ensures.others.1)
    ∙ (ap (λ x. act next.answered x (drop next.from b.bytes) next.source) (sym c.advanced-body.ensures.others.2)
    ∙ ap (λ bytes. act next.answered next.page (drop next.from bytes) next.source) (sym c.advanced-body.ensures.bytes))) in
    let is = sym c.stage_of.ensures.stage ∙ c.in-Places.is in
    let there = placing.then_works (drop b.from b.bytes) _ _ (stage_act w patterns site p n.left path after text)
    (subst (PlacesAs (drop b.from b.bytes) (placed_act w site p n.left (answer_seen site p b.answered) b.page (drop b.from b.bytes) (later b text))) moved mid)
    (λ vars. c.stage_after.ensures.works w patterns site p n.left path text vars) in
    subst (λ (x : Node). PlacesAs (hand_at n.stage) (node_act w patterns site main n text) (stage_act w patterns site (lent main x.phases) x.left (asked_path x.ask) c.fill.new.slot text)) (sym c.stage_of.ensures.node)
    (subst (λ (s : Stage). PlacesAs (hand_at n.stage) (node_act w patterns site main n text) (stage_act w patterns site p n.left path s text)) (sym c.fill.ensures.put)
    (subst (λ (s : Stage). PlacesAs (hand_at s) (stage_act w patterns site p n.left path s text) (stage_act w patterns site p n.left path after text)) (sym is) there))

pub returns-clause-node : goal.returns-clause-node
returns-clause-node c =
    let is = c.stage_of.ensures.node in
    record {
      parent = ap (λ (x : Node). x.parent) is;
      left = ap (λ (x : Node). x.left) is;
      children = ap (λ (x : Node). x.children) is;
      over = ap (λ (x : Node). x.over) is;
      asks = ap (λ (x : Node). x.asks) is;
      before = ap (λ (x : Node). x.before) is;
    }

pub returns-clause-file : goal.returns-clause-file
returns-clause-file c = (ap (λ (x : Node). x.ask) c.stage_of.ensures.node, ap (λ (x : Node). x.start) c.stage_of.ensures.node)
