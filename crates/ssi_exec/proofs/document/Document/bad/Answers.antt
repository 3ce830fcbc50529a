use Rattle.std.proofs.Common.{option_map, sym, ap, ◌∙◌}
use Rattle.acts.specs.Act.{Done}
use Rattle.request_meaning.specs.Documents.{error_text}
use Rattle.request_meaning.specs.Bodies.{bad_part}
use Rattle.request_meaning.specs.Commands.{block_grown}
use Rattle.ssi_exec.specs.Scenes.{block_seen, doc_seen}
use Rattle.ssi_exec.proofs.document.Document.bad.Goals as goal

pub returns-in_ok-grow_block-in-Some : goal.returns-in_ok-grow_block-in-Some
unfolding bad_part error_text
returns-in_ok-grow_block-in-Some c =
    let doc = doc_seen c.args.scene.now c.args.self.now in
    ap (λ b. bad_part doc (option_map block_seen b)) (sym c.in-Some.ensures.value)
    ∙ (ap (λ t. Done (block_grown doc c.in-Some.block.name c.in-Some.block.bytes t)) (sym (c.as_slice.ensures ∙ c.in_ok-text-in-Some.ensures))
    ∙ ap (λ d. Done d) (sym (c.in_ok-grow_block-in-Some.ensures c.args.scene.now)))
