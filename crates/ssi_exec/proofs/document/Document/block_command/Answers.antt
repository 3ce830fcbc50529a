use Rattle.std.proofs.Common.{sym, ap, ◌∙◌}
use Rattle.acts.specs.Act.{Done}
use Rattle.request_meaning.specs.Commands.{block_grown}
use Rattle.ssi_exec.specs.Scenes.{doc_seen}
use Rattle.ssi_exec.proofs.Inside as inside
use Rattle.ssi_exec.proofs.document.Document.block_command.Goals as goal

pub returns-then-is_end : goal.returns-then-is_end
returns-then-is_end c =
    inside.ends (doc_seen c.args.scene.now c.args.self.now) c.args.block.name c.args.block.bytes c.args.name.now c.args.ps.now (sym c.is_end.ensures ∙ c.if-is_end.true) ∙ c.in_ok-closed.ensures

pub returns : goal.returns
returns c =
    let doc = doc_seen c.args.scene.now c.args.self.now in
    inside.goes_on doc c.args.block.name c.args.block.bytes c.args.name.now c.args.ps.now (sym c.is_end.ensures ∙ c.if-is_end.false)
    ∙ (ap (λ t. Done (block_grown doc c.args.block.name c.args.block.bytes t)) (sym (c.as_slice.ensures ∙ c.in_ok-text.ensures))
    ∙ ap (λ d. Done d) (sym (c.in_ok-grow_block.ensures c.args.scene.now)))
