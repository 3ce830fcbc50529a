use Rattle.std.proofs.Common.{sym, ◌∙◌}
use Rattle.ssi_exec.specs.Scenes.{branch_seen, doc_seen}
use Rattle.ssi_exec.proofs.Ifs as branches
use Rattle.ssi_exec.proofs.document.Document.endif_done.Goals as goal

pub returns-then-is_outside : goal.returns-then-is_outside
returns-then-is_outside c =
    branches.endif_outside (doc_seen c.args.scene.now c.args.self.now) (branch_seen c.args.self.now.branch) (sym c.is_outside.ensures ∙ c.if-is_outside.true) ∙ c.in_ok-out.ensures

pub returns : goal.returns
returns c = branches.endif_inside (doc_seen c.args.scene.now c.args.self.now) (branch_seen c.args.self.now.branch) (sym c.is_outside.ensures ∙ c.if-is_outside.false)
