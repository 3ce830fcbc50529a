use Rattle.std.proofs.Common.{sym, ap, ◌∙◌, bytes_eq, arith}
use Rattle.conf_block.proofs.LevelLaws.{blocks-none, blocks-here, blocks-beside}
use Rattle.conf_block.proofs.named.next_named.Goals as goal

pub returns-then-eq-clause-blocks : goal.returns-then-eq-clause-blocks
returns-then-eq-clause-blocks c =
    sym c.loop-branch.invariant.0
    ∙ blocks-here _ c.in-Some.branch.directive.now _ _ _ c.in-Some.ensures.forest (ap (λ n. bytes_eq n c.args.name.now) (sym c.as_slice.ensures) ∙ sym c.eq.ensures ∙ c.if-eq.true)

pub loop-branch-preserved : goal.loop-branch-preserved
loop-branch-preserved c = (
  sym (blocks-beside _ c.in-Some.branch.directive.now _ _ _ c.in-Some.ensures.forest (ap (λ n. bytes_eq n c.args.name.now) (sym c.as_slice.ensures) ∙ sym c.eq.ensures ∙ c.if-eq.false)) ∙ c.loop-branch.invariant.0,
  omega (arith, c.in-Some.ensures.beside),
)

pub returns-clause-blocks : goal.returns-clause-blocks
returns-clause-blocks c = sym c.loop-branch.invariant.0 ∙ blocks-none _ _ c.in_default.ensures.forest
