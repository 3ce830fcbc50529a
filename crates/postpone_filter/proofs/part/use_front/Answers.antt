use Rattle.std.proofs.Common.{◌<◌, length, arith}
use Rattle.postpone_filter.proofs.Ties.{shows-tied, shows-pieces, part-node}
use Rattle.postpone_filter.proofs.Steps.{front-fits, used-fits, shows-used, shorter-none}
use Rattle.postpone_filter.proofs.part.use_front.Goals as goal

pub overflow_sub-part : goal.overflow_sub-part
overflow_sub-part c =
    let some : 0 < length c.args.parts.now.items = omega (arith, c.args.parts.now.ok.0) in
    front-fits _ c.args.parts.now.items c.args.nodes.now.items c.index_mut-part.result.now c.args.count c.requires.tied some c.index_mut-part.ensures.value c.requires.within

pub index_mut-node-requires : goal.index_mut-node-requires
index_mut-node-requires c =
    let some : 0 < length c.args.parts.now.items = omega (arith, c.args.parts.now.ok.0) in
    omega (arith, part-node _ c.args.parts.now.items c.args.nodes.now.items 0 c.index_mut-part.result.now c.requires.tied some c.index_mut-part.ensures.value)

pub used-requires : goal.used-requires
used-requires c =
    let some : 0 < length c.args.parts.now.items = omega (arith, c.args.parts.now.ok.0) in
    used-fits _ c.args.parts.now.items c.args.nodes.now.items c.index_mut-part.result.now c.index_mut-node.result.now c.args.count c.requires.tied some c.index_mut-part.ensures.value c.index_mut-node.ensures.value c.requires.within

pub returns-then-len-gt0-clause-tied : goal.returns-then-len-gt0-clause-tied
returns-then-len-gt0-clause-tied c =
    let some : 0 < length c.args.parts.now.items = omega (arith, c.args.parts.now.ok.0) in
    shows-tied _ _ _ (shows-used _ c.args.parts.now.items c.args.nodes.now.items c.index_mut-part.result.now c.index_mut-node.result.now c.used.new.self c.args.count c.requires.tied some c.index_mut-part.ensures.value c.index_mut-node.ensures.value c.requires.within c.used.ensures.waiting c.used.ensures.goes_on)

pub returns-then-len-gt0-clause-pieces : goal.returns-then-len-gt0-clause-pieces
returns-then-len-gt0-clause-pieces c =
    let some : 0 < length c.args.parts.now.items = omega (arith, c.args.parts.now.ok.0) in
    shows-pieces _ _ _ (shows-used _ c.args.parts.now.items c.args.nodes.now.items c.index_mut-part.result.now c.index_mut-node.result.now c.used.new.self c.args.count c.requires.tied some c.index_mut-part.ensures.value c.index_mut-node.ensures.value c.requires.within c.used.ensures.waiting c.used.ensures.goes_on)

pub returns-else-len-gt0-clause-pieces : goal.returns-else-len-gt0-clause-pieces
returns-else-len-gt0-clause-pieces c = shorter-none c.args.count _ c.args.parts.now.items c.args.nodes.now.items c.requires.tied (omega (arith, c.args.parts.now.ok.0))
