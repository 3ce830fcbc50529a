use Rattle.std.proofs.Common.{sym, ◌∙◌}
use Rattle.conf_inherit.proofs.EntriesLaws.{lines-more, lines-end}
use Rattle.conf_inherit.proofs.entries.push_lines.Goals as goal

pub loop-branch-preserved : goal.loop-branch-preserved
loop-branch-preserved c = lines-more _ _ c.in-Some.branch.directive.now _ _ _ c.in-Some.ensures.forest c.in_ok-push_line.ensures ∙ c.loop-branch.invariant

pub returns : goal.returns
returns c = sym (lines-end _ _ c.in_default.ensures.forest) ∙ c.loop-branch.invariant
