use Rattle.std.proofs.Common.{◌<◌, length, arith}
use Rattle.postpone_filter.proofs.Ties.{shows-tied, shows-pieces}
use Rattle.postpone_filter.proofs.Steps.{id-within, shows-close}
use Rattle.postpone_filter.proofs.part.close.Goals as goal

pub index_mut-node-requires : goal.index_mut-node-requires
index_mut-node-requires c =
    let at : c.args.at < length c.args.parts.now.items = omega (arith, c.requires.within, c.args.parts.now.ok.0) in
    omega (arith, id-within c.args.id _ c.args.parts.now.items c.args.nodes.now.items c.args.at c.requires.tied at c.requires.place)

pub returns-clause-tied : goal.returns-clause-tied
returns-clause-tied c =
    let at : c.args.at < length c.args.parts.now.items = omega (arith, c.requires.within, c.args.parts.now.ok.0) in
    shows-tied _ _ _ (shows-close c.args.id _ c.args.parts.now.items c.args.nodes.now.items c.args.at c.index_mut-part.result.now c.index_mut-node.result.now c.end.new.self
    c.requires.tied at c.requires.place c.index_mut-part.ensures.value c.index_mut-node.ensures.value c.end.ensures.waiting c.end.ensures.goes_on)

pub returns-clause-pieces : goal.returns-clause-pieces
returns-clause-pieces c =
    let at : c.args.at < length c.args.parts.now.items = omega (arith, c.requires.within, c.args.parts.now.ok.0) in
    shows-pieces _ _ _ (shows-close c.args.id _ c.args.parts.now.items c.args.nodes.now.items c.args.at c.index_mut-part.result.now c.index_mut-node.result.now c.end.new.self
    c.requires.tied at c.requires.place c.index_mut-part.ensures.value c.index_mut-node.ensures.value c.end.ensures.waiting c.end.ensures.goes_on)
