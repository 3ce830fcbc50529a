use Rattle.std.proofs.Common.{sym, ap, ◌∙◌}
use Rattle.conf_block.specs.Forest.{forest_of, roots}
use Rattle.conf_block.specs.Roles.{role_of}
use Rattle.conf_lists.specs.Lists.{with_role, lists_in, lists_seen}
use Rattle.conf_lists.proofs.WordLaws.{lists-none, lists-branch}
use Rattle.conf_lists.proofs.stated.stated_lists.Goals as goal

pub loop-branch-init : goal.loop-branch-init
loop-branch-init c = ap (lists_in (roots (forest_of c.args.level.now))) c.no_lists-lists.ensures

pub loop-branch-preserved : goal.loop-branch-preserved
loop-branch-preserved c =
    lists-branch _ c.in-Some.branch.directive.now _ _ (lists_seen c.loop-branch.lists) _ c.in-Some.ensures.forest
    (c.in_ok-add_role.ensures ∙ ap (λ r. with_role r c.in-Some.branch.directive.now (lists_seen c.loop-branch.lists)) (c.role_of-role.ensures ∙ ap role_of c.as_slice.ensures))
    ∙ c.loop-branch.invariant

pub returns : goal.returns
returns c = sym (lists-none _ (lists_seen c.loop-branch.lists) c.in_default.ensures.forest) ∙ c.loop-branch.invariant
