use Rattle.std.proofs.Common.{sym, ◌∙◌}
use Rattle.ssi_exec.specs.Scenes.{doc_seen}
use Rattle.ssi_exec.proofs.Acts as acts
use Rattle.ssi_exec.proofs.document.Document.config.Goals as goal

pub returns-then-not-is_config : goal.returns-then-not-is_config
returns-then-not-is_config c =
    let doc = doc_seen c.args.scene.now c.args.self.now in
    acts.config_fails doc c.args.ps.now _ _ c.param-message.ensures c.param-format.ensures (sym c.if-not-is_config.ensures) ∙ c.in_ok-out.ensures

pub returns : goal.returns
returns c =
    let scene = c.args.scene.now in
    let doc = doc_seen scene c.args.self.now in
    acts.config_sets doc c.args.ps.now _ _ c.param-message.ensures c.param-format.ensures (sym c.if-not-is_config.ensures)
    (doc_seen scene c.set_message.new.self) (doc_seen scene c.set_format.new.self) (c.in_ok-set_message.ensures scene) (c.in_ok-set_format.ensures scene)
