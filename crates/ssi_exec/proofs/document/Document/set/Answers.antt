use Rattle.std.proofs.Common.{ap, sym, ◌∙◌}
use Rattle.request_meaning.specs.Commands.{kept}
use Rattle.ssi_values.specs.Known.{filled_text}
use Rattle.ssi_exec.specs.Scenes.{doc_seen, known_at}
use Rattle.ssi_exec.proofs.Acts as acts
use Rattle.ssi_exec.proofs.document.Document.set.Goals as goal

pub returns : goal.returns
returns c = λ w h.
    let scene = c.args.scene.now in
    let d = c.args.self.now in
    let vars = c.args.vars.now in
    acts.set_by scene d vars w h c.filled_settles.ensures c.args.ps.now c.in_ok-value.value c.in_ok-text.text c.keep.new.self
    (c.in_ok-value.ensures ∙ ap (λ t. filled_text (known_at scene d vars) t) c.text_of.ensures)
    (ap (λ n. kept (doc_seen scene d) n c.in_ok-value.value) (sym c.text_of-2.ensures) ∙ c.in_ok-text.ensures)
