use Rattle.std.proofs.Common.{◌<◌, ◌+◌, ◌≤◌, length, refl, arith}
use Rattle.postpone_filter.proofs.Ties.{shows-tied, shows-pieces}
use Rattle.postpone_filter.proofs.Steps.{id-within, shows-append, append-fits}
use Rattle.postpone_filter.proofs.part.put_text.Goals as goal

pub index_mut-node-requires : goal.index_mut-node-requires
index_mut-node-requires c =
    let at : c.args.at < length c.args.parts.now.items = omega (arith, c.requires.within, c.args.parts.now.ok.0) in
    omega (arith, id-within c.args.id _ c.args.parts.now.items c.args.nodes.now.items c.args.at c.requires.tied at c.requires.place)

pub overflow_add-part : goal.overflow_add-part
overflow_add-part c =
    let at : c.args.at < length c.args.parts.now.items = omega (arith, c.requires.within, c.args.parts.now.ok.0) in
    let taken = c.in-None.ensures.taken refl in
    let fits : c.index_mut-part.result.now.len + c.len-count.result ≤ length c.take_over.new.self.waiting =
    append-fits c.args.id c.len-count.result _ c.args.parts.now.items c.args.nodes.now.items c.args.at c.index_mut-part.result.now c.index_mut-node.result.now c.take_over.new.self.waiting c.args.text
    c.requires.tied at c.requires.place c.index_mut-part.ensures.value c.index_mut-node.ensures.value taken.1 c.len-count.ensures in
    omega (arith, fits, c.in-None.ensures.bounded)

pub returns-in-None-clause-tied : goal.returns-in-None-clause-tied
returns-in-None-clause-tied c =
    let at : c.args.at < length c.args.parts.now.items = omega (arith, c.requires.within, c.args.parts.now.ok.0) in
    let taken = c.in-None.ensures.taken refl in
    shows-tied _ _ _ (shows-append c.args.id _ c.args.parts.now.items c.args.nodes.now.items c.args.at c.index_mut-part.result.now c.index_mut-node.result.now c.take_over.new.self c.args.text c.len-count.result
    c.requires.tied at c.requires.place c.index_mut-part.ensures.value c.index_mut-node.ensures.value taken.1 c.in-None.ensures.goes_on c.len-count.ensures)

pub returns-in-None-clause-pieces : goal.returns-in-None-clause-pieces
returns-in-None-clause-pieces c = λ _.
    let at : c.args.at < length c.args.parts.now.items = omega (arith, c.requires.within, c.args.parts.now.ok.0) in
    let taken = c.in-None.ensures.taken refl in
    shows-pieces _ _ _ (shows-append c.args.id _ c.args.parts.now.items c.args.nodes.now.items c.args.at c.index_mut-part.result.now c.index_mut-node.result.now c.take_over.new.self c.args.text c.len-count.result
    c.requires.tied at c.requires.place c.index_mut-part.ensures.value c.index_mut-node.ensures.value taken.1 c.in-None.ensures.goes_on c.len-count.ensures)
