use Rattle.std.proofs.Common.{◌<◌, length, refl, arith}
use Rattle.postpone_filter.proofs.Ties.{shows-tied, shows-pieces}
use Rattle.postpone_filter.proofs.Steps.{again-put}
use Rattle.postpone_filter.proofs.part.put_again.Goals as goal

pub returns-clause-tied : goal.returns-clause-tied
returns-clause-tied c =
    let at : c.args.at < length c.args.parts.now.items = omega (arith, c.requires.within, c.args.parts.now.ok.0) in
    shows-tied _ _ _ (again-put c.args.next c.args.id _ c.args.parts.now.items c.args.nodes.now.items c.args.at c.index_mut-part.result.now c.index_mut-node.result.now c.open_again.new.self c.fresh.result c.fresh-2.result _ c.insert_reserved-2.new.parts.items _
    c.requires.tied at c.requires.place c.index_mut-part.ensures.value (omega (arith, c.requires.there)) c.index_mut-node.ensures.value c.open_again.ensures.waiting c.open_again.ensures.goes_on c.requires.ended c.requires.unnamed c.fresh.ensures c.fresh-2.ensures c.insert_reserved.ensures.items c.insert_reserved-2.ensures.items refl)

pub returns-clause-pieces : goal.returns-clause-pieces
returns-clause-pieces c =
    let at : c.args.at < length c.args.parts.now.items = omega (arith, c.requires.within, c.args.parts.now.ok.0) in
    shows-pieces _ _ _ (again-put c.args.next c.args.id _ c.args.parts.now.items c.args.nodes.now.items c.args.at c.index_mut-part.result.now c.index_mut-node.result.now c.open_again.new.self c.fresh.result c.fresh-2.result _ c.insert_reserved-2.new.parts.items _
    c.requires.tied at c.requires.place c.index_mut-part.ensures.value (omega (arith, c.requires.there)) c.index_mut-node.ensures.value c.open_again.ensures.waiting c.open_again.ensures.goes_on c.requires.ended c.requires.unnamed c.fresh.ensures c.fresh-2.ensures c.insert_reserved.ensures.items c.insert_reserved-2.ensures.items refl)
