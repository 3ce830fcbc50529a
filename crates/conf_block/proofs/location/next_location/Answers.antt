use Rattle.std.proofs.Common.{sym, ◌∙◌, arith}
use Rattle.conf_block.proofs.LevelLaws.{first-none, first-here, first-beside}
use Rattle.conf_block.proofs.location.next_location.Goals as goal

pub returns-then-is_found-clause-forest : goal.returns-then-is_found-clause-forest
returns-then-is_found-clause-forest c =
    sym c.loop-branch.invariant.0
    ∙ first-here _ c.in-Some.branch.directive.now _ _ _ c.in-Some.ensures.forest (sym c.is_found.ensures ∙ c.if-is_found.true)

pub loop-branch-preserved : goal.loop-branch-preserved
loop-branch-preserved c = (
  sym (first-beside _ c.in-Some.branch.directive.now _ _ _ c.in-Some.ensures.forest (sym c.is_found.ensures ∙ c.if-is_found.false)) ∙ c.loop-branch.invariant.0,
  omega (arith, c.in-Some.ensures.beside),
)

pub returns-clause-forest : goal.returns-clause-forest
returns-clause-forest c = sym c.loop-branch.invariant.0 ∙ first-none _ _ c.in_default.ensures.forest
