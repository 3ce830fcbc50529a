use Rattle.std.proofs.Common.{arith}
use Rattle.conf_check.proofs.NamesLaws.{set-more, set-end}
use Rattle.conf_check.proofs.names.+add_names.Goals as goal

pub loop-branch-preserved : goal.loop-branch-preserved
loop-branch-preserved t c = (
  set-more _ _ _ _ c.args.here _ c.in-Some.branch.directive.now _ _ _ _ _ c.in-Some.ensures.forest c.loop-branch.invariant.0 c.in_ok-set_by.ensures c.content_inside.ensures c.in_ok-add_name.ensures c.in_ok-add_names.ensures,
  omega (arith, c.in-Some.ensures.beside),
)

pub returns : goal.returns
returns t c = set-end _ _ c.args.here _ _ c.in_default.ensures.forest c.loop-branch.invariant.0
