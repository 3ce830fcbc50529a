use Rattle.std.proofs.Common.{sym, ap, ◌∙◌}
use Rattle.acts.specs.Act.{settled}
use Rattle.request_meaning.specs.Commands.{opened, if_done}
use Rattle.ssi_exec.specs.Scenes.{branch_seen, doc_seen}
use Rattle.ssi_exec.proofs.Acts as acts
use Rattle.ssi_exec.proofs.Ifs as branches
use Rattle.ssi_exec.proofs.document.Document.if_done.Goals as goal

pub returns-then-is_outside : goal.returns-then-is_outside
returns-then-is_outside c = λ w h.
    let doc = doc_seen c.args.scene.now c.args.self.now in
    ap (λ m. settled m c.args.vars.now) (branches.if_outside w doc c.args.ps.now (branch_seen c.args.self.now.branch) (sym c.is_outside.ensures ∙ c.if-is_outside.true) ∙ ap (λ t. opened w doc t) (sym c.text_of.ensures))
    ∙ c.in_ok-out.ensures w h

pub returns : goal.returns
returns c = λ w h.
    let doc = doc_seen c.args.scene.now c.args.self.now in
    acts.by_writing c.args.vars.now (if_done w doc c.args.ps.now (branch_seen c.args.self.now.branch)) c.in_ok-out-2.out doc
    (branches.if_inside w doc c.args.ps.now (branch_seen c.args.self.now.branch) (sym c.is_outside.ensures ∙ c.if-is_outside.false) ∙ c.in_ok-out-2.ensures)
