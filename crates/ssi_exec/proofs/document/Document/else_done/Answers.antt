use Rattle.std.proofs.Common.{sym, ap, ◌∙◌}
use Rattle.acts.specs.Act.{Done}
use Rattle.ssi_exec.specs.Scenes.{branch_seen, doc_seen}
use Rattle.ssi_exec.proofs.Ifs as branches
use Rattle.ssi_exec.proofs.document.Document.else_done.Goals as goal

pub returns-in_ok-out-in-Outside : goal.returns-in_ok-out-in-Outside
returns-in_ok-out-in-Outside c =
    branches.else_outside (doc_seen c.args.scene.now c.args.self.now) (branch_seen c.args.self.now.branch) (sym c.in-Outside.ensures) ∙ c.in_ok-out-in-Outside.ensures

pub returns-in_ok-out-in-BehindElse : goal.returns-in_ok-out-in-BehindElse
returns-in_ok-out-in-BehindElse c =
    branches.else_behind (doc_seen c.args.scene.now c.args.self.now) (branch_seen c.args.self.now.branch) (sym c.in-BehindElse.ensures) ∙ c.in_ok-out-in-BehindElse.ensures

pub returns-in-Taken : goal.returns-in-Taken
returns-in-Taken c =
    branches.else_taken (doc_seen c.args.scene.now c.args.self.now) (branch_seen c.args.self.now.branch) (sym c.in-Taken.ensures) ∙ ap (λ d. Done d) (sym (c.enter.ensures c.args.scene.now))

pub returns-in-Untaken : goal.returns-in-Untaken
returns-in-Untaken c =
    branches.else_untaken (doc_seen c.args.scene.now c.args.self.now) (branch_seen c.args.self.now.branch) (sym c.in-Untaken.ensures) ∙ ap (λ d. Done d) (sym (c.enter-in-Untaken.ensures c.args.scene.now))
