use Rattle.std.proofs.Common.{sym, ap, ◌∙◌}
use Rattle.std.specs.Prelude.{codes}
use Rattle.conf_check.specs.Faults.{is_beside}
use Rattle.conf_check.proofs.BeforeLaws.{root-once, alias-once}
use Rattle.conf_check.proofs.fault.is_beside.Goals as goal

pub returns-in-Root : goal.returns-in-Root
returns-in-Root c = λ earlier r. c.has_name.ensures ∙ r.once (codes "alias") alias-once ∙ ap (λ role. is_beside role earlier) (sym c.in-Root.is)

pub returns-in-Alias : goal.returns-in-Alias
returns-in-Alias c = λ earlier r. c.has_name-in-Alias.ensures ∙ r.once (codes "root") root-once ∙ ap (λ role. is_beside role earlier) (sym c.in-Alias.is)
