use Rattle.std.proofs.Common.{◌∙◌, ap, arith}
use Rattle.std.proofs.lemmas.List.{take_all}
use Rattle.memory_outside.specs.Stored.{trees_of, newest_of}
use Rattle.replay_run.specs.Told.{told_of, tree_by}
use Rattle.replay_run.proofs.FirstTree.{tree_more, told_begins}
use Rattle.replay_run.proofs.tree.files_of.Goals as goal

pub loop-line-preserved : goal.loop-line-preserved
loop-line-preserved c = record {
  version = c.in_ok-put.ensures.version ∙ c.loop-line.invariant.version;
  sure = c.in_ok-put.ensures.failing ∙ c.loop-line.invariant.sure;
  trees = tree_more c.args.lines.now c.loop-line.line-index c.line-item.result (newest_of c.loop-line.files) c.in_ok-path.path c.in_ok-item.item (trees_of c.loop-line.files) (trees_of c.put.new.self) c.loop-line-test.true c.line-item.is c.loop-line.invariant.version
      (c.in_ok-path.ensures ∙ c.as_slice.ensures ∙ c.path_in.ensures) c.in_ok-item.ensures c.in_ok-put.ensures.stored c.loop-line.invariant.trees;
}

pub returns-clause-told : goal.returns-clause-told
returns-clause-told c =
    told_begins c.args.lines.now (told_of c.loop-line.files) c.loop-line.invariant.version
    (λ of q. c.loop-line.invariant.trees of q ∙ ap (λ xs. tree_by xs q) (take_all c.loop-line.line-index c.args.lines.now (omega (arith, c.loop-line-test.false))))
