use Rattle.std.proofs.Common.{sym, ap, ◌∙◌}
use Rattle.ngx_outside.specs.Views.{is_idle}
use Rattle.connection_core.specs.Core.{serves_at}
use Rattle.connection_core.proofs.hub.Hub.is_idle.Goals as goal

pub returns-in-Some : goal.returns-in-Some
returns-in-Some c = c.is_idle.ensures (serves_at c.args.self.now) ∙ sym (ap is_idle c.in-Some.ensures.view)
