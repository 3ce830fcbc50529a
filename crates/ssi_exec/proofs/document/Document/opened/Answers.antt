use Rattle.ssi_values.specs.Known.{truth_seen}
use Rattle.ssi_exec.proofs.Acts as acts
use Rattle.ssi_exec.proofs.document.Document.opened.Goals as goal

pub returns : goal.returns
returns c = λ w h.
    acts.opened_by c.args.scene.now c.args.self.now c.args.vars.now w h c.truth_settles.ensures c.args.text.now (truth_seen c.in_ok-truth.truth) c.in_ok-out.out c.open.new.self
    c.in_ok-truth.ensures c.in_ok-out.ensures
