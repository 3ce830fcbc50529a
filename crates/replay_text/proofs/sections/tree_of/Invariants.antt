use Rattle.std.proofs.Common.{◌≡◌, ◌≤◌, length}
use Rattle.replay_text.specs.Grammar.{tree_of}
use Rattle.replay_words.specs.Sums.{most_bytes}
use Rattle.replay_text.specs.Steps.{with_tree}
use Rattle.replay_text.proofs.sections.tree_of.Given as goal

-- the lines so far, and those that are left
abbrev pub invariant-lines : goal.invariant-lines
invariant-lines l =
    (with_tree l.tree (tree_of l.used l.spot.number l.spot.lines) ≡ tree_of 0 l.fn.spot.number l.fn.spot.lines) × (l.used ≤ most_bytes)

abbrev pub decreases-lines : goal.decreases-lines
decreases-lines l = length l.spot.lines
