use Rattle.std.proofs.Common.{sym, ap, ◌∙◌}
use Rattle.conf_block.specs.Roles.{role_of}
use Rattle.conf_lists.specs.Hosts.{marked_by}
use Rattle.conf_lists.proofs.HostLaws.{marked-branch, marked-none}
use Rattle.conf_lists.proofs.hosts.defaults_of.Goals as goal

pub loop-branch-preserved : goal.loop-branch-preserved
loop-branch-preserved c =
    marked-branch c.in-Some.branch.directive.now _ _ c.marked_by.result _ _ _ c.in-Some.ensures.forest
    (c.marked_by.ensures ∙ ap (λ r. marked_by r c.in-Some.branch.directive.now) (c.role_of-role.ensures ∙ ap role_of c.as_slice.ensures)) c.in_ok-mark.ensures
    ∙ c.loop-branch.invariant

pub returns : goal.returns
returns c = sym (marked-none c.loop-branch.defaults _ c.in_default.ensures.forest) ∙ c.loop-branch.invariant
