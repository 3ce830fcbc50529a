use Rattle.std.proofs.Common.{◌≡◌, false, drop, length, refl, subst, arith, rules}
use Rattle.location_search.specs.Building.{IsBuilt}
use Rattle.location_search.specs.declared.node.Node.{Node}
use Rattle.location_search.proofs.Trees.{built-start, built-all}
use Rattle.location_search.proofs.build.tree_of.Goals as goal

pub loop-at-init : goal.loop-at-init
loop-at-init c = record {
  inside = omega arith;
  built = built-start c.new-nodes.result.items c.new-waiting.result.items c.args.locations.now c.new-nodes.ensures.items c.new-waiting.ensures.items;
}

pub returns : goal.returns
returns c =
    let nodes = c.loop-at.nodes.items in
    let waiting = c.loop-at.waiting.items in
    let node : Node = record { level = c.args.level; firm = false; list = c.in_ok-list.list } in
    let start : c.loop-at.at ≡ 0 = omega (arith, c.loop-at-test.false) in
    let built : IsBuilt nodes waiting c.args.locations.now = subst (λ n. IsBuilt nodes waiting (drop n c.args.locations.now)) start c.loop-at.invariant.built in
    let own : c.in-Ok.own ≡ length nodes = search rules in
    built-all nodes waiting c.gather.new.waiting.items c.in_ok-gather.field-0 c.in_ok-list.list c.in_ok-list.ensures c.args.locations.now node
    (record { nodes = c.push.new.self; own = c.in-Ok.own }) built c.in_ok-gather.ensures refl c.in_ok-push.ensures.items own
