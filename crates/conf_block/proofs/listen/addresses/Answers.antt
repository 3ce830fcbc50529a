use Rattle.std.proofs.Common.{sym, ap, ◌∙◌}
use Rattle.conf_block.specs.Roles.{role_of}
use Rattle.conf_block.specs.Listening.{address_by}
use Rattle.conf_block.proofs.LevelLaws.{listens-branch, listens-none}
use Rattle.conf_block.proofs.listen.addresses.Goals as goal

pub loop-branch-preserved : goal.loop-branch-preserved
loop-branch-preserved c =
    listens-branch c.in-Some.branch.directive.now _ _ c.address_by.result _ _ _ c.in-Some.ensures.forest
    (c.address_by.ensures ∙ ap (λ r. address_by r c.in-Some.branch.directive.now) (c.role_of.ensures ∙ ap role_of c.as_slice.ensures)) c.in_ok-listen_at.ensures
    ∙ c.loop-branch.invariant

pub returns : goal.returns
returns c = sym (listens-none c.loop-branch.listens _ c.in_default.ensures.forest) ∙ c.loop-branch.invariant
