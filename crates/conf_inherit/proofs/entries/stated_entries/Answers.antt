use Rattle.std.proofs.Common.{sym, ◌∙◌}
use Rattle.conf_block.specs.Blocks.{block_with}
use Rattle.conf_block.specs.Forest.{forest_of}
use Rattle.conf_inherit.proofs.EntriesLaws.{blocks-more, blocks-end}
use Rattle.conf_inherit.proofs.entries.stated_entries.Goals as goal

pub loop-branch-preserved : goal.loop-branch-preserved
loop-branch-preserved c = blocks-more _ _ (block_with c.in-Some.branch.directive.now (forest_of c.in-Some.branch.block.now)) _ _ c.in-Some.ensures.blocks c.in_ok-push_lines.ensures ∙ c.loop-branch.invariant

pub returns : goal.returns
returns c = sym (blocks-end _ _ c.in_default.ensures.blocks) ∙ c.loop-branch.invariant
