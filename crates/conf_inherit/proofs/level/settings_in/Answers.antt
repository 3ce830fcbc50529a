use Rattle.std.proofs.Common.{sym, ap, ◌∙◌}
use Rattle.conf_block.specs.Forest.{forest_of, roots}
use Rattle.conf_inherit.specs.Values.{settings_in}
use Rattle.conf_inherit.proofs.InheritLaws.{settings-none, settings-branch}
use Rattle.conf_inherit.proofs.level.settings_in.Goals as goal

pub loop-branch-preserved : goal.loop-branch-preserved
loop-branch-preserved c =
    ap (settings_in (roots (forest_of c.in-Some.branch.beside.now))) c.with_directive-settings.ensures
    ∙ sym (settings-branch _ c.in-Some.branch.directive.now _ _ c.loop-branch.settings c.in-Some.ensures.forest) ∙ c.loop-branch.invariant

pub returns : goal.returns
returns c = sym (settings-none _ c.loop-branch.settings c.in_default.ensures.forest) ∙ c.loop-branch.invariant
