use Rattle.std.proofs.Common.{◌++◌, drop, sym, ap, ◌∙◌}
use Rattle.file_tree.specs.Tree.{text_of}
use Rattle.node_line.specs.node_turn.Stages.{item_asked}
use Rattle.family_nodes.proofs.Hearing as hearing
use Rattle.family_nodes.proofs.hear.put_block.Goals as goal

pub returns-clause-file : goal.returns-clause-file
returns-clause-file c = λ trees from.
    let n = c.args.node.now in
    ap (λ start. c.args.bytes.now ++ drop start (text_of (item_asked trees n.ask))) c.in-Some.ensures
    ∙ hearing.block_withheld trees n.ask n.start c.args.bytes (sym c.reads_from.ensures ∙ c.if-not-reads_from.false) from
