use Rattle.std.proofs.Common.{◌<◌, length, arith}
use Rattle.postpone_filter.proofs.Ties.{shows-tied, shows-pieces}
use Rattle.postpone_filter.proofs.Steps.{child-put}
use Rattle.postpone_filter.proofs.part.put_child.Goals as goal

pub returns-clause-tied : goal.returns-clause-tied
returns-clause-tied c =
    let at : c.args.at < length c.args.parts.now.items = omega (arith, c.requires.within, c.args.parts.now.ok.0) in
    shows-tied _ _ _ (child-put c.args.parent c.args.child _ c.args.parts.now.items c.args.nodes.now.items c.args.at c.index_mut-part.result.now c.args.node c.fresh.result c.fresh-2.result _ c.insert_reserved-2.new.parts.items c.push_reserved.new.self.items
    c.requires.tied at c.requires.place c.index_mut-part.ensures.value c.requires.waiting c.requires.goes_on (omega (arith, c.requires.child)) c.fresh.ensures c.fresh-2.ensures c.insert_reserved.ensures.items c.insert_reserved-2.ensures.items c.push_reserved.ensures.items)

pub returns-clause-pieces : goal.returns-clause-pieces
returns-clause-pieces c =
    let at : c.args.at < length c.args.parts.now.items = omega (arith, c.requires.within, c.args.parts.now.ok.0) in
    shows-pieces _ _ _ (child-put c.args.parent c.args.child _ c.args.parts.now.items c.args.nodes.now.items c.args.at c.index_mut-part.result.now c.args.node c.fresh.result c.fresh-2.result _ c.insert_reserved-2.new.parts.items c.push_reserved.new.self.items
    c.requires.tied at c.requires.place c.index_mut-part.ensures.value c.requires.waiting c.requires.goes_on (omega (arith, c.requires.child)) c.fresh.ensures c.fresh-2.ensures c.insert_reserved.ensures.items c.insert_reserved-2.ensures.items c.push_reserved.ensures.items)
