use Rattle.std.proofs.Common.{◌++◌, map, ap, sym, ◌∙◌}
use Rattle.conf_lists.specs.Hosts.{name_of, names_in}
use Rattle.std.specs.Prelude.{codes}
use Rattle.conf_block.specs.Forest.{forest_of}
use Rattle.conf_block.specs.Blocks.{blocks_of}
use Rattle.conf_inherit.proofs.NameLaws.{names-empty, names-some, names-over}
use Rattle.conf_inherit.proofs.names.stated_names.Goals as goal

pub loop-branch-init : goal.loop-branch-init
loop-branch-init g c = names-empty _ _ _ c.new-names.ensures.items

pub loop-branch-preserved : goal.loop-branch-preserved
loop-branch-preserved g c =
    let more = names_in (blocks_of (codes "server_name") (forest_of c.in-Some.branch.beside.now)) in
    names-some _ _ _ _ _ _ (map name_of c.as_slice-words.result.now) _ more _ c.loop-branch.invariant c.in_ok-push_names.ensures
    (ap names_in c.in-Some.ensures.blocks ∙ ap (λ ws. map name_of ws ++ more) (sym c.as_slice-words.ensures))

pub returns : goal.returns
returns g c = names-over _ _ _ _ _ _ c.loop-branch.invariant (ap names_in c.in_default.ensures.blocks)
