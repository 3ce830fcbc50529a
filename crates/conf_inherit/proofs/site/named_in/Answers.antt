use Rattle.std.proofs.Common.{rules}
use Rattle.conf_inherit.proofs.SiteLaws.{fits-later, so-far-begin, so-far-more, so-far-end, named-none, named-here}
use Rattle.conf_inherit.proofs.site.named_in.Goals as goal

pub loop-branch-init : goal.loop-branch-init
loop-branch-init g c = so-far-begin _ _ _ _ _ (search rules)

pub named_of-requires : goal.named_of-requires
named_of-requires g c = fits-later _ _ c.args.outer c.loop-branch.invariant.shelf_kept c.requires

pub loop-branch-preserved : goal.loop-branch-preserved
loop-branch-preserved g c =
    so-far-more c.loop-branch.invariant _ _ _ c.in_ok-named_of.field-0 _ _ c.in_ok-named_of.ensures.levels c.in_ok-named_of.ensures.shelf (search rules)
    (named-here _ _ _ c.in-Some.branch.directive.now _ _ c.in-Some.ensures.forest c.in-Some.ensures.found) c.in_ok-named_of.ensures.seen

pub returns-clause-seen : goal.returns-clause-seen
returns-clause-seen g c = λ b h. so-far-end c.loop-branch.invariant (named-none _ _ _ c.in_default.ensures.forest) b h

pub returns-clause-levels : goal.returns-clause-levels
returns-clause-levels g c = c.loop-branch.invariant.levels_kept

pub returns-clause-shelf : goal.returns-clause-shelf
returns-clause-shelf g c = c.loop-branch.invariant.shelf_kept
