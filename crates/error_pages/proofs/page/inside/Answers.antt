use Rattle.std.proofs.Common.{ap, ◌∙◌}
use Rattle.target_text.specs.Settled.{target_seen}
use Rattle.error_pages.specs.declared.page.PageStep.TheVariants.{Inside}
use Rattle.error_pages.proofs.Nexts as nexts
use Rattle.error_pages.proofs.page.inside.Goals as goal

pub returns-clause-ok : goal.returns-clause-ok
returns-clause-ok c =
    nexts.inside_by c.args.shown _ (target_seen c.in_ok-target.target) _ c.in_ok-target.ensures.ok
    (ap (λ a. Inside c.in_ok-target.target.path a c.args.shown) (c.unwrap_or.ensures ∙ nexts.or_empty c.in_ok-target.target.args c.new.result c.new.ensures))
