use Rattle.std.proofs.Common.{ap, ◌∙◌}
use Rattle.ssi_values.specs.Known.{filled_text}
use Rattle.ssi_exec.proofs.document.Document.filled_in.Goals as goal

pub returns : goal.returns
returns c = c.in_ok-value.ensures ∙ ap (λ k. filled_text k c.args.text.now) c.sight.ensures
