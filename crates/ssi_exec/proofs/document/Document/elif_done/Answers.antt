use Rattle.std.proofs.Common.{None, sym, ap, ◌∙◌}
use Rattle.acts.specs.Act.{Done, settled}
use Rattle.request_meaning.specs.Commands.{opened, elif_done}
use Rattle.ssi_exec.specs.Scenes.{branch_seen, doc_seen}
use Rattle.ssi_exec.proofs.Acts as acts
use Rattle.ssi_exec.proofs.Ifs as branches
use Rattle.ssi_exec.proofs.document.Document.elif_done.Goals as goal

pub returns-in_ok-out-in-Outside : goal.returns-in_ok-out-in-Outside
returns-in_ok-out-in-Outside c = λ w h.
    let doc = doc_seen c.args.scene.now c.args.self.now in
    let b = branch_seen c.args.self.now.branch in
    acts.by_writing c.args.vars.now (elif_done w doc c.args.ps.now b) c.in_ok-out-in-Outside.out doc
    (branches.elif_outside w doc c.args.ps.now b (sym c.in-Outside.ensures) ∙ c.in_ok-out-in-Outside.ensures)

pub returns-in_ok-out-in-BehindElse : goal.returns-in_ok-out-in-BehindElse
returns-in_ok-out-in-BehindElse c = λ w h.
    let doc = doc_seen c.args.scene.now c.args.self.now in
    let b = branch_seen c.args.self.now.branch in
    acts.by_writing c.args.vars.now (elif_done w doc c.args.ps.now b) c.in_ok-out-in-BehindElse.out doc
    (branches.elif_behind w doc c.args.ps.now b (sym c.in-BehindElse.ensures) ∙ c.in_ok-out-in-BehindElse.ensures)

pub returns-in-Taken : goal.returns-in-Taken
returns-in-Taken c = λ w h.
    let scene = c.args.scene.now in
    let doc = doc_seen scene c.args.self.now in
    let b = branch_seen c.args.self.now.branch in
    acts.by_writing c.args.vars.now (elif_done w doc c.args.ps.now b) None (doc_seen scene c.enter.new.self)
    (branches.elif_taken w doc c.args.ps.now b (sym c.in-Taken.ensures) ∙ ap (λ d. Done d) (sym (c.enter.ensures scene)))

pub returns-in_ok-out-in-Untaken : goal.returns-in_ok-out-in-Untaken
returns-in_ok-out-in-Untaken c = λ w h.
    let doc = doc_seen c.args.scene.now c.args.self.now in
    let b = branch_seen c.args.self.now.branch in
    ap (λ m. settled m c.args.vars.now) (branches.elif_untaken w doc c.args.ps.now b (sym c.in-Untaken.ensures) ∙ ap (λ t. opened w doc t) (sym c.text_of.ensures))
    ∙ c.in_ok-out-in-Untaken.ensures w h
