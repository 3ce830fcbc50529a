use Rattle.std.proofs.Common.{◌∙◌, ◌<◌, ◌≤◌, length, take, sym, ap, refl, arith, length-take}
use Rattle.postpone_filter.proofs.Ties.{part-node}
use Rattle.postpone_filter.proofs.Steps.{front-bytes, front-none, front-part, none-long}
use Rattle.postpone_filter.proofs.part.front_bytes.Goals as goal

pub bounds-nodes-part : goal.bounds-nodes-part
bounds-nodes-part c =
    let some : 0 < length c.args.parts.now.items = omega (arith, c.in-Some.ensures.variant.0 refl, c.args.parts.now.ok.0) in
    part-node _ c.args.parts.now.items c.args.nodes.now 0 c.in-Some.part.now c.requires some c.in-Some.ensures.lookup

pub slice_bounds-result-end : goal.slice_bounds-result-end
slice_bounds-result-end c =
    let some : 0 < length c.args.parts.now.items = omega (arith, c.in-Some.ensures.variant.0 refl, c.args.parts.now.ok.0) in
    let fits : c.in-Some.part.now.len ≤ length c.index-nodes-part.result.waiting = front-part _ c.args.parts.now.items c.args.nodes.now c.in-Some.part.now c.index-nodes-part.result c.requires some c.in-Some.ensures.lookup c.index-nodes-part.is in
    omega (arith, length-take c.in-Some.part.now.len c.front-in-Some.result.now, ap length c.front-in-Some.ensures, fits)

pub returns-in-Some : goal.returns-in-Some
returns-in-Some c =
    let some : 0 < length c.args.parts.now.items = omega (arith, c.in-Some.ensures.variant.0 refl, c.args.parts.now.ok.0) in
    ap (take c.in-Some.part.now.len) c.front-in-Some.ensures
    ∙ front-bytes _ c.args.parts.now.items c.args.nodes.now c.in-Some.part.now c.index-nodes-part.result c.requires some c.in-Some.ensures.lookup
    (part-node _ c.args.parts.now.items c.args.nodes.now 0 c.in-Some.part.now c.requires some c.in-Some.ensures.lookup) c.index-nodes-part.is

pub returns-in-None : goal.returns-in-None
returns-in-None c = front-none _ c.args.parts.now.items c.args.nodes.now c.requires (sym c.args.parts.now.ok.0 ∙ none-long c.args.parts.now.len c.in-None.ensures.variant.1)
