use Rattle.std.proofs.Common.{ap, ◌∙◌}
use Rattle.ssi_values.specs.Known.{truth_of}
use Rattle.ssi_exec.proofs.document.Document.truth_of.Goals as goal

pub returns : goal.returns
returns c = c.in_ok-truth.ensures ∙ ap (λ k. truth_of k c.args.text.now) c.sight.ensures
