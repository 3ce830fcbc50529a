use Rattle.std.proofs.Common.{sym, ap, ◌∙◌}
use Rattle.conf_block.specs.Roles.{role_of}
use Rattle.conf_check.proofs.PatternLaws.{flaw-elsewhere, flaw-here}
use Rattle.conf_check.proofs.patterns.check_patterns.Goals as goal

pub returns-then-not-are_directives : goal.returns-then-not-are_directives
returns-then-not-are_directives g c = flaw-elsewhere _ c.args.here c.args.directive.now _ (sym c.are_directives.ensures ∙ c.if-not-are_directives.true)

pub returns : goal.returns
returns g c =
    flaw-here _ c.args.here c.args.directive.now c.role_of-role.result _ _ _ (sym c.are_directives.ensures ∙ c.if-not-are_directives.false) (c.role_of-role.ensures ∙ ap role_of c.as_slice.ensures)
    (c.error_of.ensures _ _ _ c.in_ok-flaw.ensures)
