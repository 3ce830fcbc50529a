use Rattle.std.proofs.Common.{ap, ◌∙◌}
use Rattle.ssi_values.specs.Known.{named_text}
use Rattle.ssi_exec.proofs.document.Document.named.Goals as goal

pub returns : goal.returns
returns c = c.in_ok-value.ensures ∙ ap (λ k. named_text k c.args.name.now) c.sight.ensures
