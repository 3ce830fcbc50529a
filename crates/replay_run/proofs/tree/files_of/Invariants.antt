use Rattle.std.proofs.Common.{◌≡◌, ℕ, List, [], take}
use Rattle.memory_outside.specs.Stored.{trees_of, newest_of, failing_of}
use Rattle.replay_run.specs.Told.{tree_by}
use Rattle.replay_run.proofs.tree.files_of.Given as goal

abbrev pub invariant-loop-line : goal.invariant-loop-line
invariant-loop-line l = record {
  version : newest_of l.files ≡ 0;
  sure : failing_of l.files ≡ [];
  trees : (of : ℕ) (path : List ℕ) → trees_of l.files of path ≡ tree_by (take l.line-index l.lines) path;
}
