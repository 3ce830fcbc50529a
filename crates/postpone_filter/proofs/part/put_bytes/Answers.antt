use Rattle.std.proofs.Common.{◌≡◌, ◌<◌, ◌+◌, ◌≤◌, length, take, arith}
use Rattle.postpone_filter.proofs.Ties.{shows-tied, shows-pieces}
use Rattle.postpone_filter.proofs.Steps.{id-within, shows-append, append-count, append-fits, taken}
use Rattle.postpone_filter.proofs.part.put_bytes.Goals as goal

pub index_mut-node-requires : goal.index_mut-node-requires
index_mut-node-requires c =
    let at : c.args.at < length c.args.parts.now.items = omega (arith, c.requires.within, c.args.parts.now.ok.0) in
    omega (arith, id-within c.args.id _ c.args.parts.now.items c.args.nodes.now.items c.args.at c.requires.tied at c.requires.place)

pub returns-clause-count : goal.returns-clause-count
returns-clause-count c =
    let at : c.args.at < length c.args.parts.now.items = omega (arith, c.requires.within, c.args.parts.now.ok.0) in
    append-count c.args.id (length c.args.bytes.now) c.in_ok-count.count _ c.args.parts.now.items c.args.nodes.now.items c.args.at c.index_mut-node.result.now c.requires.tied at c.requires.place c.index_mut-node.ensures.value c.in_ok-count.ensures.count

pub overflow_add-part : goal.overflow_add-part
overflow_add-part c =
    let at : c.args.at < length c.args.parts.now.items = omega (arith, c.requires.within, c.args.parts.now.ok.0) in
    let size : c.in_ok-count.count ≡ length (take c.in_ok-count.count c.args.bytes.now) = taken c.in_ok-count.count _ c.args.bytes.now (append-count c.args.id (length c.args.bytes.now) c.in_ok-count.count _ c.args.parts.now.items c.args.nodes.now.items c.args.at c.index_mut-node.result.now c.requires.tied at c.requires.place c.index_mut-node.ensures.value c.in_ok-count.ensures.count) in
    let fits : c.index_mut-part.result.now.len + c.in_ok-count.count ≤ length c.append.new.self.waiting =
    append-fits c.args.id c.in_ok-count.count _ c.args.parts.now.items c.args.nodes.now.items c.args.at c.index_mut-part.result.now c.index_mut-node.result.now c.append.new.self.waiting (take c.in_ok-count.count c.args.bytes.now)
    c.requires.tied at c.requires.place c.index_mut-part.ensures.value c.index_mut-node.ensures.value c.in_ok-count.ensures.waiting size in
    omega (arith, fits, c.in_ok-count.ensures.bounded)

pub returns-clause-tied : goal.returns-clause-tied
returns-clause-tied c =
    let at : c.args.at < length c.args.parts.now.items = omega (arith, c.requires.within, c.args.parts.now.ok.0) in
    shows-tied _ _ _ (shows-append c.args.id _ c.args.parts.now.items c.args.nodes.now.items c.args.at c.index_mut-part.result.now c.index_mut-node.result.now c.append.new.self (take c.in_ok-count.count c.args.bytes.now) c.in_ok-count.count
    c.requires.tied at c.requires.place c.index_mut-part.ensures.value c.index_mut-node.ensures.value c.in_ok-count.ensures.waiting c.in_ok-count.ensures.goes_on
    (taken c.in_ok-count.count _ c.args.bytes.now (append-count c.args.id (length c.args.bytes.now) c.in_ok-count.count _ c.args.parts.now.items c.args.nodes.now.items c.args.at c.index_mut-node.result.now c.requires.tied at c.requires.place c.index_mut-node.ensures.value c.in_ok-count.ensures.count)))

pub returns-clause-pieces : goal.returns-clause-pieces
returns-clause-pieces c =
    let at : c.args.at < length c.args.parts.now.items = omega (arith, c.requires.within, c.args.parts.now.ok.0) in
    shows-pieces _ _ _ (shows-append c.args.id _ c.args.parts.now.items c.args.nodes.now.items c.args.at c.index_mut-part.result.now c.index_mut-node.result.now c.append.new.self (take c.in_ok-count.count c.args.bytes.now) c.in_ok-count.count
    c.requires.tied at c.requires.place c.index_mut-part.ensures.value c.index_mut-node.ensures.value c.in_ok-count.ensures.waiting c.in_ok-count.ensures.goes_on
    (taken c.in_ok-count.count _ c.args.bytes.now (append-count c.args.id (length c.args.bytes.now) c.in_ok-count.count _ c.args.parts.now.items c.args.nodes.now.items c.args.at c.index_mut-node.result.now c.requires.tied at c.requires.place c.index_mut-node.ensures.value c.in_ok-count.ensures.count)))
