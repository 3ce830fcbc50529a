use Rattle.std.proofs.Common.{ap, codes, unwrap_or, ◌∙◌}
use Rattle.request_meaning.specs.Commands.{fit_encoded, param}
use Rattle.ssi_values.specs.Known.{named_text}
use Rattle.ssi_exec.specs.Scenes.{known_at}
use Rattle.ssi_exec.proofs.Acts as acts
use Rattle.ssi_exec.proofs.document.Document.echo.Goals as goal

pub returns : goal.returns
returns c = λ w h.
    let scene = c.args.scene.now in
    let d = c.args.self.now in
    let vars = c.args.vars.now in
    let ps = c.args.ps.now in
    acts.echo_by scene d vars w h c.named_settles.ensures ps c.in_ok-value.value c.in_ok-text.text c.in_ok-out.out
    (c.in_ok-value.ensures ∙ ap (λ n. named_text (known_at scene d vars) n) c.text_of.ensures)
    (c.in_ok-text.ensures ∙ (ap (λ e. fit_encoded e c.or_default.result.now) c.encoding_of.ensures ∙ ap (λ t. fit_encoded (unwrap_or (param (codes "encoding") ps) (codes "entity")) t) c.or_default.ensures))
    c.in_ok-out.ensures
